use Rattle.lock_order.proofs.SameText.{same_text}
use Rattle.lock_order.proofs.laws.lock_text_law.Goals as goal

pub returns : goal.returns
returns c = same_text
