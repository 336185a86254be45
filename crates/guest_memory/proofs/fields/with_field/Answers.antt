use Rattle.std.proofs.Common.{◌≡◌, ℕ, ◌<◌, Fits, w64, arith}
use Rattle.std.proofs.Math.Facts.{Fits-of_lt}
use Rattle.guest_memory.proofs.Digits.{writes}
use Rattle.guest_memory.proofs.fields.with_field.Goals as goal

pub overflow_add-result : goal.overflow_add-result
overflow_add-result c = Fits-of_lt (writes c.args.word c.args.offset c.args.size c.args.value c.field-old.result (omega arith) (omega arith) c.requires.within c.field-old.ensures).fits

pub returns : goal.returns
returns c = (writes c.args.word c.args.offset c.args.size c.args.value c.field-old.result (omega arith) (omega arith) c.requires.within c.field-old.ensures).value_is
