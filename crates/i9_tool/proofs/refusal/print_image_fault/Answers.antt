use Rattle.i9_tool.proofs.refusal.print_image_fault.Goals as goal

pub returns-in-Line : goal.returns-in-Line
returns-in-Line g c = rw c.in-Line.is c.print_line.ensures

pub returns-in-Elf : goal.returns-in-Elf
returns-in-Elf g c = rw c.in-Elf.is c.print_elf_refusal.ensures
