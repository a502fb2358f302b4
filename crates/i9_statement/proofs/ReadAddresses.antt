-- A printed address is read again.
use Rattle.std.proofs.Common.{◌≡◌, ℕ, zero, suc, ◌^◌, ◌<◌, Bool, true, false, not, cond, ltb, List, [], ◌∷◌, ◌++◌, length, Option, Some, refl, ap, ◌∙◌, arith, append_assoc}
use Rattle.std.specs.Prelude.{codes, get_or}
use Rattle.std.specs.Option.{option_and_then}
use Rattle.std.specs.List.{list_all}
use Rattle.std.specs.Str.{bytes_eq}
use Rattle.std.specs.Fmt.{decimal}
use Rattle.std.proofs.lemmas.Bool.{and_parts, ltb-true, not-true}
use Rattle.std.proofs.Math.Dec.{eqb-suc-zero}
use Rattle.std.proofs.lemmas.List.Folds.{list_all-append}
use Rattle.i9_isa.specs.declared.inst.Mode.{Mode}
use Rattle.i9_isa.specs.declared.inst.Mode.TheVariants.{Offset, BaseOffset, BaseIndex, Disp, BaseDisp, IndexDisp, BaseIndexDisp}
use Rattle.i9_isa.specs.declared.inst.Ea.{Ea}
use Rattle.i9_isa.specs.Operands.{is_address}
use Rattle.i9_decode.proofs.Forms.{AddressParts, address_parts}
use Rattle.i9_statement.specs.declared.values.Value.{Value}
use Rattle.i9_statement.specs.declared.values.Value.TheVariants.{Number}
use Rattle.i9_statement.specs.declared.parts.Front.{Front}
use Rattle.i9_statement.specs.declared.parts.Front.TheVariants.{Valued}
use Rattle.i9_statement.specs.declared.parts.Base.{Base}
use Rattle.i9_statement.specs.declared.parts.Base.TheVariants as base
use Rattle.i9_statement.specs.declared.parts.Index.{Index}
use Rattle.i9_statement.specs.declared.parts.Index.TheVariants as index
use Rattle.i9_statement.specs.Cut.{is_byte, closed}
use Rattle.i9_statement.specs.Noted.{fine}
use Rattle.i9_statement.specs.Registers.{register_text}
use Rattle.i9_statement.specs.Values.{Names, value_of, is_name_byte}
use Rattle.i9_statement.specs.Addresses.{bang, star, open_round, close_round, open_square, close_square, opens, base_of, with_rest, base_named, scale_names, scale_of, index_of, valued, front_of, mode_of, address_by, address_behind, address_of}
use Rattle.i9_statement.specs.NumberText.{hex_text}
use Rattle.i9_statement.specs.Printed.{base_text, index_text, address_text}
use Rattle.i9_statement.proofs.Cutting.{is_free, stops, before-cut, from-cut, closed-cut, free_by, apart_by, free_in}
use Rattle.i9_text.proofs.Below.{test_below, passes_below}
use Rattle.i9_statement.proofs.ReadValues.{register_place-text, register_bytes, value_of-decimal, value_of-hex, decimal_bytes, decimal_some, hex_bytes}

-- ---- bytes of names and numbers are none of the signs

opens_apart : (b : ℕ) → is_name_byte b ≡ true → opens b ≡ false
opens_apart b h = rw (apart_by is_name_byte 40 b refl h, apart_by is_name_byte 91 b refl h) refl

pub free_of_opens : (w : List ℕ) → list_all is_name_byte w ≡ true → is_free opens w ≡ true
free_of_opens w h = free_by is_name_byte opens opens_apart w h

-- ---- base and index

no_ip : test_below (λ k. not (bytes_eq (register_text k) (codes "ip"))) 39 ≡ true
unfolding register_text
no_ip = refl

base_named-text : (r : ℕ) → r < 32 → base_named (register_text r) ≡ Some (base.Register r)
base_named-text r h = rw (not-true _ (passes_below (λ k. not (bytes_eq (register_text k) (codes "ip"))) 39 r no_ip (omega arith)), register_place-text r (omega arith)) refl

abbrev base_of_open : List ℕ → Option (Base × List ℕ)
base_of_open s = option_and_then (λ c. with_rest (base_named c.0) c.1) (closed close_round s)

base_of-text : (r : ℕ) (t : List ℕ) → r < 32 → base_of ((open_round ∷ register_text r ++ close_round ∷ []) ++ t) ≡ Some (base.Register r, t)
unfolding base_of
base_of-text r t h =
    let free = free_in is_name_byte close_round (register_text r) refl (register_bytes r (omega arith)) in
    cc (
      append_assoc (register_text r) (close_round ∷ []) t,
      closed-cut close_round (register_text r) t free,
      base_named-text r h,
    )

pub scale_name_bytes : (k : ℕ) → k < 5 → list_all is_name_byte (get_or scale_names k []) ≡ true
scale_name_bytes k h = grind arith

scale_of-text : (k : ℕ) → k < 5 → scale_of (get_or scale_names k []) ≡ Some k
unfolding scale_of
scale_of-text k h = grind arith

abbrev square_byte : ℕ → Bool
square_byte b = not (is_byte close_square b)

index_of-text : (r k : ℕ) → r < 32 → k < 5 → index_of (open_square ∷ (register_text r ++ star ∷ get_or scale_names k []) ++ close_square ∷ []) ≡ Some (index.Scaled r k)
unfolding index_of
index_of-text r k hr hk =
    let reg = register_text r in
    let scale = get_or scale_names k [] in
    let reg_bytes = register_bytes r (omega arith) in
    let scale_free = free_in is_name_byte close_square scale refl (scale_name_bytes k hk) in
    let inside : is_free (is_byte close_square) (reg ++ star ∷ scale) ≡ true =
    list_all-append square_byte reg (star ∷ scale) ∙ rw (free_in is_name_byte close_square reg refl reg_bytes, scale_free) refl in
    let reg_free = free_in is_name_byte star reg refl reg_bytes in
    cc (
      closed-cut close_square (reg ++ star ∷ scale) [] inside,
      from-cut (is_byte star) reg (star ∷ scale) reg_free refl,
      before-cut (is_byte star) reg (star ∷ scale) reg_free refl,
      register_place-text r (omega arith),
      scale_of-text k hk,
    )

-- ---- the whole

-- an address whose parts are read
parts_behind : (forced : Bool) (names : Names) (f b i : List ℕ) {front : Front} {at : Base} {by : Index} → list_all is_name_byte f ≡ true → stops opens (b ++ i) ≡ true → front_of names f ≡ front
    → base_of (b ++ i) ≡ Some (at, i) → index_of i ≡ Some by → address_behind forced names (f ++ (b ++ i)) ≡ address_by (mode_of forced front at by) front at by
unfolding address_behind
parts_behind forced names f b i {front} {at} {by} bytes stop ef eb ei =
    let free = free_of_opens f bytes in
    cc (before-cut opens f (b ++ i) free stop, from-cut opens f (b ++ i) free stop)

-- ---- one mode after the other

abbrev pub ea : Mode → ℕ → ℕ → ℕ → ℕ → Ea
ea m b i s d = record { mode = m; base = b; index = i; scale = s; disp = d }

-- the parts of any address are in these ranges
pub record Within (e : Ea) : Type 0 where
  pub base : e.base < 32
  pub index : e.index < 32
  pub scale : e.scale < 5
  pub disp : e.disp < 2 ^ 32

pub within : (e : Ea) → is_address e ≡ true → Within e
within e h = grind arith

-- a text that begins with a name's byte has no `!`
not_forced : (names : Names) (w t : List ℕ) → 0 < length w → list_all is_name_byte w ≡ true → address_of names (w ++ t) ≡ address_behind false names (w ++ t)
unfolding address_of
not_forced names [] t some h = absurd (omega arith)
not_forced names (c ∷ w) t some h = rw (apart_by is_name_byte bang c refl (and_parts (is_name_byte c) (list_all is_name_byte w) h).0) refl

front_of-some : (names : Names) (w : List ℕ) (v : Value) → 0 < length w → value_of names w ≡ Some v → front_of names w ≡ Valued v
front_of-some names w v some h = grind arith

front_of-hex : (names : Names) (n : ℕ) → n < 2 ^ 32 → front_of names (hex_text n) ≡ Valued (Number n)
unfolding hex_text
front_of-hex names n h = ap valued (value_of-hex names n h)

front_of-decimal : (names : Names) (n : ℕ) → n < 2 ^ 32 → front_of names (decimal n) ≡ Valued (Number n)
front_of-decimal names n h = front_of-some names (decimal n) (Number n) (decimal_some n h) (value_of-decimal names n h)

-- a displacement, with `!` where it is needed
perhaps_forced : (q : Bool) (names : Names) (d : ℕ) (t : List ℕ) → address_of names ((cond q (bang ∷ []) []) ++ (hex_text d ++ t)) ≡ address_behind q names (hex_text d ++ t)
unfolding address_of hex_text
perhaps_forced q names d t = grind arith

mode_disp : (q : Bool) (d : ℕ) → ltb d 4096 ≡ q → mode_of q (Valued (Number d)) base.Nothing index.Nothing ≡ Some Disp
mode_disp q d h = grind arith

mode_base_disp : (q : Bool) (d r : ℕ) → ltb d 4096 ≡ q → mode_of q (Valued (Number d)) (base.Register r) index.Nothing ≡ Some BaseDisp
mode_base_disp q d r h = grind arith

-- an address of a mode is read again
abbrev IsRead : Names → Ea → Type 0
IsRead names e = address_of names (address_text e) ≡ fine e

zero_of : (n : ℕ) → ltb n 1 ≡ true → n ≡ 0
zero_of n h = let l = ltb-true n 1 h in omega arith

read_by : (names : Names) (m : Mode) (b i s d : ℕ) → AddressParts (ea m b i s d) → Within (ea m b i s d) → IsRead names (ea m b i s d)
unfolding address_text address_of base_of index_of closed
read_by names Offset b i s d p w =
    not_forced names (decimal d) ([] ++ []) (decimal_some d w.disp) (decimal_bytes d w.disp)
    ∙ parts_behind false names (decimal d) [] [] (decimal_bytes d w.disp) refl (front_of-decimal names d w.disp) refl refl
    ∙ rw (zero_of b p.base, zero_of i p.index, zero_of s p.scale, p.disp) refl
read_by names BaseOffset b i s zero p w =
    parts_behind false names [] (base_text BaseOffset b) [] refl refl refl (base_of-text b [] w.base) refl
    ∙ rw (zero_of i p.index, zero_of s p.scale, p.base) refl
read_by names BaseOffset b i s (suc d) p w =
    let n = suc d in
    ap (λ q. address_of names (cond q [] (decimal n) ++ (base_text BaseOffset b ++ []))) (eqb-suc-zero d)
    ∙ not_forced names (decimal n) (base_text BaseOffset b ++ []) (decimal_some n w.disp) (decimal_bytes n w.disp)
    ∙ parts_behind false names (decimal n) (base_text BaseOffset b) [] (decimal_bytes n w.disp) refl (front_of-decimal names n w.disp) (base_of-text b [] w.base) refl
    ∙ rw (zero_of i p.index, zero_of s p.scale, p.disp, p.base) refl
read_by names Mode.Base b i s d p w =
    parts_behind true names [] (base_text Mode.Base b) [] refl refl refl (base_of-text b [] w.base) refl
    ∙ rw (zero_of i p.index, zero_of s p.scale, zero_of d p.disp, p.base) refl
read_by names Mode.Ip b i s d p w =
    perhaps_forced false names d (codes "(ip)" ++ [])
    ∙ parts_behind false names (hex_text d) (codes "(ip)") [] (hex_bytes d) refl (front_of-hex names d w.disp) refl refl
    ∙ rw (zero_of b p.base, zero_of i p.index, zero_of s p.scale) refl
read_by names BaseIndex b i s d p w =
    parts_behind false names [] (base_text BaseIndex b) (index_text BaseIndex i s) refl refl refl (base_of-text b (index_text BaseIndex i s) w.base) (index_of-text i s w.index w.scale)
    ∙ rw (zero_of d p.disp, p.base, p.index) refl
read_by names Disp b i s d p w =
    perhaps_forced (ltb d 4096) names d ([] ++ [])
    ∙ parts_behind (ltb d 4096) names (hex_text d) [] [] (hex_bytes d) refl (front_of-hex names d w.disp) refl refl
    ∙ ap (λ m. address_by m (Valued (Number d)) base.Nothing index.Nothing) (mode_disp (ltb d 4096) d refl)
    ∙ rw (zero_of b p.base, zero_of i p.index, zero_of s p.scale) refl
read_by names BaseDisp b i s d p w =
    perhaps_forced (ltb d 4096) names d (base_text BaseDisp b ++ [])
    ∙ parts_behind (ltb d 4096) names (hex_text d) (base_text BaseDisp b) [] (hex_bytes d) refl (front_of-hex names d w.disp) (base_of-text b [] w.base) refl
    ∙ ap (λ m. address_by m (Valued (Number d)) (base.Register b) index.Nothing) (mode_base_disp (ltb d 4096) d b refl)
    ∙ rw (zero_of i p.index, zero_of s p.scale, p.base) refl
read_by names IndexDisp b i s d p w =
    perhaps_forced false names d ([] ++ index_text IndexDisp i s)
    ∙ parts_behind false names (hex_text d) [] (index_text IndexDisp i s) (hex_bytes d) refl (front_of-hex names d w.disp) refl (index_of-text i s w.index w.scale)
    ∙ rw (zero_of b p.base, p.index) refl
read_by names BaseIndexDisp b i s d p w =
    perhaps_forced false names d (base_text BaseIndexDisp b ++ index_text BaseIndexDisp i s)
    ∙ parts_behind false names (hex_text d) (base_text BaseIndexDisp b) (index_text BaseIndexDisp i s) (hex_bytes d) refl (front_of-hex names d w.disp)
    (base_of-text b (index_text BaseIndexDisp i s) w.base) (index_of-text i s w.index w.scale)
    ∙ rw (p.base, p.index) refl

-- a printed address is read again
pub address_of-text : (names : Names) (e : Ea) → is_address e ≡ true → address_of names (address_text e) ≡ fine e
address_of-text names e h = read_by names e.mode e.base e.index e.scale e.disp (address_parts e h) (within e h)
