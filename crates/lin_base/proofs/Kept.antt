-- What a replacement rests on.
use Rattle.lin_base.proofs.Forming.{forming}
use Rattle.lin_base.proofs.WellFormed.{is_lin-scale, is_lin-without, is_lin-add, is_fact-replace}

pub ruleset kept = (forming, is_lin-scale, is_lin-without, is_lin-add, is_fact-replace)
