use Rattle.std.proofs.Common.{ℕ, ◌-◌, ◌≤◌, length}
use Rattle.tff_lexer.specs.Forms.{is_content_and_quote}
use Rattle.tff_lexer.specs.Prefixes.{IsLongestPrefix, joined_length}
use Rattle.tff_lexer.proofs.quotes.content_and_quote_length.Given as goal

abbrev pub invariant-loop-first : goal.invariant-loop-first
invariant-loop-first l = record {
  within : length l.rest ≤ length l.fn.text;
  goes : (n : ℕ) → IsLongestPrefix (is_content_and_quote l.quote) l.rest n → IsLongestPrefix (is_content_and_quote l.quote) l.fn.text (joined_length (length l.fn.text - length l.rest) n);
}

abbrev pub decreases-loop-first : goal.decreases-loop-first
decreases-loop-first l = length l.rest
