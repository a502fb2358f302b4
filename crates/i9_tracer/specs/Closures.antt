-- What a closure that is kept may be called on.
use Rattle.std.specs.Prelude.{◌≡◌, ℕ, ◌<◌, ◌^◌, length}
use Rattle.std.specs.List.{All}
use Rattle.i9_model.specs.Numbers.{IsWord}
use Rattle.i9_model.specs.declared.view.View.{View}

-- each address
abbrev pub TakesEachAddress : (ℕ → Type 0) → Type 0
TakesEachAddress can_test = (a : ℕ) → IsWord a → can_test a

-- the numbers of a view are words, its count too
pub record IsView (v : View) : Type 0 where
  pub count : v.count < 2 ^ 32
  pub ip : IsWord v.ip
  pub ac : IsWord v.ac
  pub pc : IsWord v.pc
  pub tc : IsWord v.tc
  pub registers : length v.regs ≡ 32
  pub words : All IsWord v.regs
  pub marks : IsWord v.marks

-- each view
abbrev pub TakesEachView : (View → Type 0) → Type 0
TakesEachView can_test = (v : View) → IsView v → can_test v
