use Rattle.whole_parts.proofs.Whole.{whole}
use Rattle.whole_parts.proofs.whole_law.Goals as goal

pub returns : goal.returns
returns c file limits lay m rs plan closed last ranges first ok are dues over =
    whole file limits ok lay plan m rs ranges first are dues closed last over
