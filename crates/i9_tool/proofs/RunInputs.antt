-- What the files of a run say, and what drives it.
use Rattle.std.proofs.Common.{◌≡◌, ℕ, List, Option, Some, None, sym, ap, ◌∙◌}
use Rattle.i9_model.specs.ScheduleText.{Contents}
use Rattle.i9_tool.specs.declared.refusal.FileKind.TheVariants.{Image}
use Rattle.i9_tool.specs.FileKinds.{file_of, IsRead}
use Rattle.i9_tool.specs.CommandLine.{Run, Driver, driver_files}
use Rattle.i9_tool.specs.Inputs.{Drive, Runs, no_schedule, IsTaskOf, SaysPlan, SaysDrive}
use Rattle.i9_tool.proofs.Wider.{read_wider, are_read_wider}

-- the image is read, and then the schedule and the script, where files say the same
pub run_read : (told mid last : List ℕ → Option (List ℕ)) (same : (n : List ℕ) → mid n ≡ told n) (all : (n : List ℕ) → last n ≡ told n)
    (image : List ℕ) (schedule : Option (List ℕ)) (sets : Option ℕ) (driver : Driver) (pairs : List (ℕ × ℕ)) (plan : Contents) (drive : Drive)
    → IsRead told (file_of Image image) pairs → SaysPlan mid schedule plan → SaysDrive last driver drive
    → IsTaskOf told (Run image schedule sets driver) (Runs pairs plan sets drive)
run_read told mid last same all image None sets driver pairs plan drive read p d = record {
  said = (pairs, d.said);
  are_read = (read, are_read_wider last told (λ n f is. rw (sym (all n)) is) (driver_files driver) d.said d.are_read);
  is = ap (λ (x : Contents). Runs pairs x sets drive) p.is ∙ ap (Runs pairs no_schedule sets) d.is;
}
run_read told mid last same all image (Some name) sets driver pairs plan drive read p d = record {
  said = (pairs, (p.said.0, d.said));
  are_read = (
    read,
    (
      read_wider mid told (λ n f is. rw (sym (same n)) is) _ p.said.0 p.are_read.0,
      are_read_wider last told (λ n f is. rw (sym (all n)) is) (driver_files driver) d.said d.are_read,
    ),
  );
  is = ap (λ (x : Contents). Runs pairs x sets drive) p.is ∙ ap (Runs pairs p.said.0 sets) d.is;
}
