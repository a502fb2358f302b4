-- Page: which places of a page are marked.
use Rattle.std.specs.Prelude.{ℕ, ◌/◌, Bool, true, false, slice_index_or}
use Rattle.i9_watch.specs.declared.page.Mark.{Mark}
use Rattle.i9_watch.specs.declared.page.Mark.TheVariants.{Soft, Live, Lost}
use Rattle.i9_watch.specs.declared.page.Change.{Change}
use Rattle.i9_watch.specs.declared.page.Change.TheVariants.{Save, Store, Return, Soften, Lose}
use Rattle.i9_watch.specs.declared.page.Page.{Page}

-- a place of a page has a mark
abbrev pub has_mark : Mark → Page → ℕ → Bool
has_mark Soft p k = slice_index_or p.soft.value k false
has_mark Live p k = slice_index_or p.live (k / 16) false
has_mark Lost p k = slice_index_or p.lost.value k false

-- a mark after a change
abbrev pub changed : Change → Mark → Bool → Bool
changed Save Soft marked = true
changed Save Live marked = true
changed Save Lost marked = marked
changed Store Soft marked = false
changed Store Live marked = marked
changed Store Lost marked = marked
changed Return Soft marked = marked
changed Return Live marked = false
changed Return Lost marked = false
changed Soften Soft marked = true
changed Soften Live marked = marked
changed Soften Lost marked = marked
changed Lose Soft marked = marked
changed Lose Live marked = marked
changed Lose Lost marked = true

-- it is done to whole blocks
abbrev pub is_blockwise : Change → Bool
is_blockwise Save = true
is_blockwise Return = true
is_blockwise _ = false

-- it sets marks
abbrev pub sets_marks : Change → Bool
sets_marks Save = true
sets_marks Soften = true
sets_marks Lose = true
sets_marks _ = false
