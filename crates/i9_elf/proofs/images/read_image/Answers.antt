use Rattle.std.proofs.Common.{◌≡◌, Bool, true, false, ◌∙◌, sym, subst}
use Rattle.i9_elf.specs.Images.{HasMagic}
use Rattle.i9_elf.proofs.ImageAnswers.{Answers, by_elf, by_hex}
use Rattle.i9_elf.proofs.images.read_image.Goals as goal

begun : (c : goal.After-from_elf) → Answers c.args.file.now c.from_elf.result
begun c = subst (Answers c.args.file.now) (sym c.from_elf.ensures)
    (by_elf c.args.file.now c.read.result (c.has_magic.ensures.yes c.if-has_magic.true) c.read.ensures.found c.read.ensures.only c.read.ensures.refused c.read.ensures.first)

both : ◌≡◌ {A = Bool} true false → ⊥
both e = absurd cc

other : (c : goal.After-from_hex) → Answers c.args.file.now c.from_hex.result
other c =
    let none : ¬ HasMagic c.args.file.now = λ begins. both (sym (c.has_magic.ensures.no begins) ∙ c.if-has_magic.false) in
    subst (Answers c.args.file.now) (sym c.from_hex.ensures)
    (by_hex c.args.file.now c.read-else-has_magic.result none c.read-else-has_magic.ensures.found c.read-else-has_magic.ensures.only c.read-else-has_magic.ensures.refused c.read-else-has_magic.ensures.first)

pub returns-then-has_magic : goal.returns-then-has_magic
returns-then-has_magic c = record {
  found = (begun c).found;
  only = (begun c).only;
  refused = (begun c).refused;
  first = (begun c).first;
}

pub returns-else-has_magic : goal.returns-else-has_magic
returns-else-has_magic c = record {
  found = (other c).found;
  only = (other c).only;
  refused = (other c).refused;
  first = (other c).first;
}
