use Rattle.std.proofs.Common.{ap, sym, ◌∙◌, ◌≡◌, ◌<◌, length, take, drop, ◌++◌, ◌∷◌, ◌+◌, List, ℕ}
use Rattle.std.specs.Prelude.{slice_get, Some, None}
use Rattle.std.specs.List.{slice_index_or}
use Rattle.std.specs.Option.{option_copied}
use Rattle.term_base.specs.declared.terms.Term.TheVariants.{App}
use Rattle.term_base.specs.Trees.{tree}
use Rattle.term_base.specs.Places.{put_at}
use Rattle.term_base.specs.TreeLists.{put_at-App, put_at-App-none, path-cons, path-rest, same-tree}
use Rattle.term_base.proofs.placing.+put.Goals as goal

pub returns-in_ok-put_among-in-Some : goal.returns-in_ok-put_among-in-Some
returns-in_ok-put_among-in-Some t c =
    let path = c.args.path.now in
    let args = c.in-App.args in
    let n = slice_index_or path 0 0 in
    let there : slice_get args n ≡ Some c.in-Some.arg.now = sym c.get-in-App.ensures.value ∙ ap option_copied c.in-Some.is in
    let in_range : n < length args = c.in-Some.ensures.within in
    let made : c.in_ok-put_among-in-Some.field-0 ≡ take n args ++ (c.in_ok-changed-in-Some.changed ∷ drop (n + 1) args) = rw (← c.as_slice.ensures) c.in_ok-put_among-in-Some.ensures in
    let below : tree c.in_ok-changed-in-Some.changed ≡ put_at (drop 1 path) (tree c.args.new) (tree c.in-Some.arg.now) = rw (← path-rest path) c.in_ok-changed-in-Some.ensures in
    ap (λ us. tree (App c.in-App.f us)) made
    ∙ put_at-App c.args.t.now c.in-App.f args c.in-App.is n (drop 1 path) c.args.new c.in-Some.arg.now c.in_ok-changed-in-Some.changed there in_range below
    ∙ ap (λ (p : List ℕ). put_at p (tree c.args.new) (tree c.args.t.now)) (sym (path-cons path c.in-len1-up.len_at_least))

pub returns-in-None : goal.returns-in-None
returns-in-None t c =
    let path = c.args.path.now in
    let gone : slice_get c.in-App.args (slice_index_or path 0 0) ≡ None = sym c.get-in-App.ensures.value ∙ ap option_copied c.in-None.is in
    let stays = put_at-App-none c.args.t.now c.in-App.f c.in-App.args c.in-App.is (slice_index_or path 0 0) (drop 1 path) c.args.new gone in
    same-tree c.copy-in-None.result c.args.t.now (put_at path (tree c.args.new) (tree c.args.t.now)) c.copy-in-None.ensures
    (sym stays ∙ ap (λ (p : List ℕ). put_at p (tree c.args.new) (tree c.args.t.now)) (sym (path-cons path c.in-len1-up.len_at_least)))
