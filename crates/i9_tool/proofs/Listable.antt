-- An accepted image has a listing.
use Rattle.std.proofs.Common.{◌≡◌, ℕ, zero, suc, ◌+◌, ◌-◌, ◌%◌, ◌<◌, List, [], ◌∷◌, ◌++◌, map, take, drop, replicate, refl, ap, ◌∙◌, subst, sym, arith}
use Rattle.std.specs.List.{flat_map}
use Rattle.hex.specs.Hex.{IsBytes}
use Rattle.hex.proofs.HexLemmas.{decode_of-ok}
use Rattle.i9_text.specs.Text.{lines_of}
use Rattle.i9_text.specs.FirstFault.{SaysAll}
use Rattle.i9_model.specs.HexText as hex
use Rattle.i9_model.specs.HexText.{Origin, Upper, Base, address_in, HexState, start, record_bytes, IsRecord, Says, says_nothing, says_bytes, says_end, says_base, says_start_segment, says_upper, says_start_address}
use Rattle.i9_model.specs.Image.{Part, pairs_of, address_count, pairs_at, upwards}
use Rattle.i9_elf.specs.Files.{Header, loads_of, loaded_bytes, loaded_pairs}
use Rattle.i9_elf.specs.Images.{IsImage, says_elf, says_hex}
use Rattle.i9_hex.specs.Runs.{IsLow}
use Rattle.i9_hex.proofs.Rising.{ArePlaced}
use Rattle.i9_dis.proofs.Listed.{some_listing}
use Rattle.i9_tool.specs.declared.refusal.FileKind.TheVariants.{Image}
use Rattle.i9_tool.specs.FileKinds.{AreBytes, octets, IsAccepted}
use Rattle.i9_tool.specs.Outcome.{DisGives, listed}
use Rattle.i9_asm.proofs.ReadListing.{low_take, low_drop}
use Rattle.i9_tool.proofs.AssembledBytes.{low_append}

-- ---- the pairs of an accepted image stand in the address space

low_front : (bs more : List ℕ) → IsBytes (bs ++ more) → IsLow bs
low_front [] more h = tt
low_front (b ∷ bs) more h = (h 0, low_front bs more (λ i. h (suc i)))

-- the content of a record
content_low : (line : List ℕ) (kind a : ℕ) (content : List ℕ) → IsRecord line kind a content → IsLow content
content_low line kind a content r =
    let bytes = (decode_of-ok r.digits (record_bytes kind a content r.check) r.bytes).3 in
    low_front content (r.check ∷ []) (λ i. bytes (suc (suc (suc (suc i)))))

-- a base of 16 bits
abbrev IsFine : Origin → Type 0
IsFine (Upper half) = Unit {0}
IsFine (Base base) = base < 65536

fine_address : (o : Origin) (n : ℕ) → IsFine o → address_in o n < address_count
fine_address (Upper half) n fine = omega arith
fine_address (Base base) n fine = omega arith

placed_at : (o : Origin) (n : ℕ) (bs : List ℕ) → IsFine o → IsLow bs → ArePlaced (pairs_at (address_in o) n bs)
placed_at o n [] fine low = tt
placed_at o n (b ∷ bs) fine low = (record { address = fine_address o n fine; byte = low.0 }, placed_at o (n + 1) bs fine low.1)

placed_append : (ps qs : List (ℕ × ℕ)) → ArePlaced ps → ArePlaced qs → ArePlaced (ps ++ qs)
placed_append [] qs h g = g
placed_append (p ∷ ps) qs h g = (h.0, placed_append ps qs h.1 g)

-- what the lines so far say
record IsSound (s : HexState) : Type 0 where
  placed : ArePlaced s.pairs
  fine : IsFine s.origin

sound_line : (s : HexState) (line : List ℕ) (t : HexState) → Says s line t → IsSound s → IsSound t
sound_line s line t (says_nothing _) h = h
sound_line s line t (says_bytes _ _ a bs unended r few) h =
    record { placed = placed_append s.pairs (pairs_at (address_in s.origin) a bs) h.placed (placed_at s.origin a bs h.fine (content_low line _ a bs r)); fine = h.fine }
sound_line s line t (says_end _ _ a unended r) h = record { placed = h.placed; fine = h.fine }
sound_line s line t (says_base _ _ a high low unended r) h =
    let bytes = content_low line _ a (high ∷ low ∷ []) r in
    record { placed = h.placed; fine = omega (arith, bytes.0, bytes.1.0) }
sound_line s line t (says_start_segment _ _ a c unended few r) h = h
sound_line s line t (says_upper _ _ a high low unended r) h = record { placed = h.placed; fine = tt }
sound_line s line t (says_start_address _ _ a c unended few r) h = h

sound_lines : (s : HexState) (lines : List (List ℕ)) (t : HexState) → SaysAll Says s lines t → IsSound s → IsSound t
sound_lines s [] t same h = subst IsSound same h
sound_lines s (line ∷ lines) t says h = sound_lines says.0 lines t says.2 (sound_line s line says.0 says.1 h)

-- an image in Intel HEX
hex_placed : (file : List ℕ) (pairs : List (ℕ × ℕ)) → hex.IsImage (lines_of file) pairs → ArePlaced pairs
hex_placed file pairs image =
    subst ArePlaced image.same (sound_lines start (lines_of file) image.last image.says (record { placed = tt; fine = tt })).placed

low_octets : (file : List ℕ) → IsLow (octets file)
low_octets [] = tt
low_octets (n ∷ file) = (omega arith, low_octets file)

low_loaded : (file : List ℕ) (h : Header) → IsLow file → IsLow (loaded_bytes file h)
low_loaded file h low =
    low_append (take h.in_file (drop h.offset file)) (replicate (h.in_memory - h.in_file) 0)
    (low_take h.in_file (drop h.offset file) (low_drop h.offset file low)) (low_replicate (h.in_memory - h.in_file))
  where
    low_replicate : (n : ℕ) → IsLow (replicate n 0)
    low_replicate zero = tt
    low_replicate (suc n) = (omega arith, low_replicate n)

placed_upwards : (a : ℕ) (bs : List ℕ) → IsLow bs → ArePlaced (upwards a bs)
placed_upwards a [] low = tt
placed_upwards a (b ∷ bs) low = (record { address = omega arith; byte = low.0 }, placed_upwards (a + 1) bs low.1)

placed_loads : (file : List ℕ) (loads : List Header) → IsLow file → ArePlaced (flat_map (loaded_pairs file) loads)
placed_loads file [] low = tt
placed_loads file (h ∷ loads) low =
    placed_append (loaded_pairs file h) (flat_map (loaded_pairs file) loads) (placed_upwards h.address (loaded_bytes file h) (low_loaded file h low)) (placed_loads file loads low)

image_placed : (file : List ℕ) (pairs : List (ℕ × ℕ)) → IsLow file → IsImage file pairs → ArePlaced pairs
image_placed file pairs low (says_elf image) = subst ArePlaced image.same (placed_loads file (loads_of file) low)
image_placed file pairs low (says_hex other image) = hex_placed file pairs image

accepted_placed : (file : List ℕ) (pairs : List (ℕ × ℕ)) → IsAccepted Image file pairs → ArePlaced pairs
accepted_placed file pairs accepted = image_placed (octets file) pairs (low_octets file) accepted.says

-- ---- a listing of such pairs

-- an image with a segment for each pair
abbrev image_of : List (ℕ × ℕ) → List Part
image_of ps = map (λ (p : ℕ × ℕ). record { address = p.0; bytes = p.1 ∷ [] }) ps

image_pairs : (ps : List (ℕ × ℕ)) → ArePlaced ps → pairs_of (image_of ps) ≡ ps
unfolding pairs_of
image_pairs [] placed = refl
image_pairs (p ∷ ps) placed =
    let address : p.0 % address_count ≡ p.0 = omega (arith, placed.0.address) in
    ap (λ (a : ℕ). (a, p.1) ∷ pairs_of (image_of ps)) address ∙ ap (λ (qs : List (ℕ × ℕ)). p ∷ qs) (image_pairs ps placed.1)

low_pairs : (ps : List (ℕ × ℕ)) → ArePlaced ps → AreBytes ps
low_pairs [] placed = tt
low_pairs (p ∷ ps) placed = (placed.0.byte, low_pairs ps placed.1)

-- each value is a byte
pub accepted_bytes : (file : List ℕ) (pairs : List (ℕ × ℕ)) → IsAccepted Image file pairs → AreBytes pairs
accepted_bytes file pairs accepted = low_pairs pairs (accepted_placed file pairs accepted)

pub some_listed : (file : List ℕ) (pairs : List (ℕ × ℕ)) → IsAccepted Image file pairs → (text : List ℕ) × DisGives pairs 0 text
some_listed file pairs accepted =
    let placed = accepted_placed file pairs accepted in
    let same = image_pairs pairs placed in
    let text = some_listing (image_of pairs) (subst AreBytes (sym same) (low_pairs pairs placed)) in
    (text.0, listed (image_of pairs) text.0 same text.1)
