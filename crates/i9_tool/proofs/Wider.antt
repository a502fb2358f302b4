-- The same status and text in a wider choice: of files that say no more, and of more counts that rose.
use Rattle.std.proofs.Common.{ℕ, List, [], ◌∷◌, inl, inr, Option, Some, None}
use Rattle.i9_outside.specs.Traits.{IsFile}
use Rattle.i9_tool.specs.FileKinds.{File, Value, IsRead}
use Rattle.i9_tool.specs.Refusals.{Refusal, Refuses, unread, too_long, faulty, FirstRefusal}
use Rattle.i9_tool.specs.Inputs.{Inputs, AreRead}
use Rattle.i9_tool.specs.CommandLine.{Command, files_of}
use Rattle.i9_tool.specs.Outcome.{CommandGives, refused, done, Gives, in_no_form, in_form}

module _ (told other : List ℕ → Option (List ℕ)) (found : (n f : List ℕ) → IsFile (told n) f → IsFile (other n) f) where
  pub read_wider : (file : File) (value : Value file.kind) → IsRead told file value → IsRead other file value
  read_wider file value h = record { bytes = h.bytes; is_file = found file.name h.bytes h.is_file; accepted = h.accepted }

  pub are_read_wider : (files : List File) (said : Inputs files) → AreRead told files said → AreRead other files said
  are_read_wider [] said h = tt
  are_read_wider (f ∷ files) said h = (read_wider f said.0 h.0, are_read_wider files said.1 h.1)

  module _ (rose risen : List ℕ → Type 0) (rises : (n : List ℕ) → rose n → risen n) where
    refuses_wider : (file : File) (r : Refusal) → Refuses told rose file r → Refuses other risen file r
    refuses_wider file _ (unread h) = unread (rises file.name h)
    refuses_wider file _ (too_long bytes is long) = too_long bytes (found file.name bytes is) long
    refuses_wider file _ (faulty bytes fault is short bad) = faulty bytes fault (found file.name bytes is) short bad

    pub first_wider : (files : List File) (r : Refusal) → FirstRefusal told rose files r → FirstRefusal other risen files r
    first_wider [] r h = h
    first_wider (f ∷ files) r (inl h) = inl (refuses_wider f r h)
    first_wider (f ∷ files) r (inr h) = inr (h.0, read_wider f h.0 h.1, first_wider files r h.2)

    pub command_wider : (c : Command) (code : ℕ) (text : List ℕ) → CommandGives told rose c code text → CommandGives other risen c code text
    command_wider c _ _ (refused r h) = refused r (first_wider (files_of c) r h)
    command_wider c code text (done said _ _ h g) = done said code text (are_read_wider (files_of c) said h) g

    pub gives_wider : (asked : Option Command) (code : ℕ) (text : List ℕ) → Gives told rose asked code text → Gives other risen asked code text
    gives_wider None code text in_no_form = in_no_form
    gives_wider (Some c) code text (in_form _ _ _ g) = in_form c code text (command_wider c code text g)
