-- Each text has one answer: a schedule's version and events, or a first fault.
use Rattle.std.proofs.Common.{◌≡◌, ℕ, ◌⊎◌, inl, inr, List, Result, Ok, Err, refl}
use Rattle.i9_text.specs.Text.{lines_of}
use Rattle.i9_model.specs.ScheduleText.{Contents, IsSchedule, IsRefused}
use Rattle.i9_schedule.proofs.WholeText.{read_text, read_says, says_read, read_refuses, refused_read}

-- by what reading gives
either_of : (text : List ℕ) (r : Result Contents (ℕ × ℕ)) → read_text text ≡ r → ((c : Contents) × IsSchedule (lines_of text) c) ⊎ ((f : ℕ × ℕ) × IsRefused (lines_of text) f)
either_of text (Ok c) e = inl (c, read_says text c e)
either_of text (Err f) e = inr (f, read_refuses text f e)

pub some_answer : (text : List ℕ) → ((c : Contents) × IsSchedule (lines_of text) c) ⊎ ((f : ℕ × ℕ) × IsRefused (lines_of text) f)
some_answer text = either_of text (read_text text) refl

pub answers_apart : (text : List ℕ) (c : Contents) (f : ℕ × ℕ) → IsSchedule (lines_of text) c → IsRefused (lines_of text) f → ⊥
answers_apart text c f says bad = let a = says_read text c says in let b = refused_read text f bad in cc

pub one_schedule : (text : List ℕ) (c d : Contents) → IsSchedule (lines_of text) c → IsSchedule (lines_of text) d → c ≡ d
one_schedule text c d p q = let a = says_read text c p in let b = says_read text d q in cc

pub one_fault : (text : List ℕ) (f g : ℕ × ℕ) → IsRefused (lines_of text) f → IsRefused (lines_of text) g → f ≡ g
one_fault text f g p q = let a = refused_read text f p in let b = refused_read text g q in cc
