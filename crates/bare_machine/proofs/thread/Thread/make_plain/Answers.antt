use Rattle.std.proofs.Common.{◌∙◌, ap₂, refl}
use Rattle.guest_memory.specs.Fields.{field, with_field}
use Rattle.bare_machine.proofs.PlainLaws.{nothing_made, registers_made, word_loaded, word_stored, same_registers, kept_registers, known_at, granule_there}
use Rattle.bare_machine.proofs.thread.Thread.make_plain.Goals as goal

pub returns-then-not-self-clause-made : goal.returns-then-not-self-clause-made
returns-then-not-self-clause-made c tid w here memory = nothing_made c.args.code.now tid w c.args.self.now c.args.memory.now here memory _ refl

pub returns-in_default-clause-made : goal.returns-in_default-clause-made
returns-in_default-clause-made c tid w here memory = nothing_made c.args.code.now tid w c.args.self.now c.args.memory.now here memory _ refl

pub returns-in_default-granule_of-clause-made : goal.returns-in_default-granule_of-clause-made
returns-in_default-granule_of-clause-made c tid w here memory = nothing_made c.args.code.now tid w c.args.self.now c.args.memory.now here memory _ (same_registers c.args.self.now _ c.in-Load.ensures.undone)

pub returns-in_default-granule_of-2-clause-made : goal.returns-in_default-granule_of-2-clause-made
returns-in_default-granule_of-2-clause-made c tid w here memory = nothing_made c.args.code.now tid w c.args.self.now c.args.memory.now here memory _ (same_registers c.args.self.now _ c.in-Store.ensures.undone)

pub returns-in-Local-clause-made : goal.returns-in-Local-clause-made
returns-in-Local-clause-made c tid w here memory =
    registers_made c.args.code.now tid w c.args.self.now c.args.memory.now here memory c.if-not-self.false _ (known_at _ _ _ _ c.pc.ensures c.in-Some.ensures) _ c.in-Local.ensures.value

pub returns-in-Some-granule_of-clause-made : goal.returns-in-Some-granule_of-clause-made
returns-in-Some-granule_of-clause-made c tid w here memory =
    word_loaded c.args.code.now tid w c.args.self.now c.args.memory.now here memory c.if-not-self.false _ (known_at _ _ _ _ c.pc.ensures c.in-Some.ensures) _ _ _ _ _ _ c.in-Load.ensures.value c.in-Load.ensures.undone (granule_there _ _ _ _ c.image-image.ensures c.in-Some-granule_of.ensures) (c.field.ensures ∙ ap₂ (λ x o. field x o c.in-Load.size) c.word-word.ensures c.offset.ensures) c.finish.ensures

pub returns-in-Some-granule_of-2-clause-made : goal.returns-in-Some-granule_of-2-clause-made
returns-in-Some-granule_of-2-clause-made c tid w here memory =
    word_stored c.args.code.now tid w c.args.self.now c.args.memory.now here memory c.if-not-self.false _ (known_at _ _ _ _ c.pc.ensures c.in-Some.ensures) _ _ _ _ _ _ _ _ c.in-Store.ensures.value c.in-Store.ensures.undone (granule_there _ _ _ _ c.image-image.ensures c.in-Some-granule_of-2.ensures) (c.with_field-stored.ensures ∙ ap₂ (λ x o. with_field x o c.in-Store.size c.in-Store.value) c.word-word-in-Store.ensures c.offset-in-Store.ensures) c.write.ensures.written c.write.ensures.size c.finish-in-Store.ensures

pub returns-in_default-begin-clause-made : goal.returns-in_default-begin-clause-made
returns-in_default-begin-clause-made c tid w here memory = nothing_made c.args.code.now tid w c.args.self.now c.args.memory.now here memory _ (same_registers c.args.self.now _ (kept_registers c.begin.result _ _ c.begin.ensures.undone c.in_default-begin.not-Local))
