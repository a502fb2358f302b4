-- What the second word of an instruction counts for, and the hazards of a fetch.
use Rattle.std.proofs.Common.{◌≡◌, ℕ, ◌+◌, ◌<◌, ◌^◌, ◌==◌, Bool, false, cond, nat_lt, Option, Some, None, option_and_then, Result, Ok, Err, refl, sym, ap, ◌∙◌, arith}
use Rattle.i9_decode.proofs.SameMemory.{taken}
use Rattle.std.specs.Option.{option_map}
use Rattle.i9_isa.specs.declared.format.Format.{Format}
use Rattle.i9_isa.specs.declared.inst.Mode.{Mode}
use Rattle.i9_isa.specs.declared.inst.Mode.TheVariants.{Offset, Ip}
use Rattle.i9_isa.specs.declared.inst.Ea.{Ea}
use Rattle.i9_isa.specs.declared.inst.Inst.{Inst}
use Rattle.i9_isa.specs.declared.inst.BadWord.{BadWord}
use Rattle.i9_isa.specs.Valid.{IsValid}
use Rattle.i9_isa.specs.Table.{row_of}
use Rattle.i9_isa.specs.Words.{words_of_mode, words_of, mode_in, address_in, if_scaled, ea_in, decoded}
use Rattle.i9_isa.proofs.Decoding.{decoded_encodes, encodes_decoded, second_free, refusal_free}
use Rattle.i9_decode.proofs.ValidWords.{encodes_valid}
use Rattle.i9_model.specs.State.{State}
use Rattle.i9_model.specs.Writes.{wrapped}
use Rattle.i9_model.specs.Hazards.{or_else, read_hazard}
use Rattle.i9_model.specs.Step.{first_word, next_word}
use Rattle.i9_model.specs.Access.{second_hazard, fetch_hazard}
use Rattle.i9_plan.specs.declared.decode_cache.DecodeCache.{DecodeCache}
use Rattle.i9_plan.specs.Kept.{last_of, inst_in, words_in}
use Rattle.i9_plan.specs.Planned.{IsRead}

-- ---- the second word

two_words : (m : Mode) (w w1 v : ℕ) → words_of_mode m ≡ 2 → address_in m w v ≡ record (address_in m w w1) { disp = v }
two_words Ip w w1 v two = refl
two_words _ w w1 v two = cc

shown : (b : Bool) (x e : Ea) (v : ℕ) → cond b (Some x) None ≡ Some e → cond b (Some (record x { disp = v })) None ≡ Some (record e { disp = v })
shown b x e v h = grind arith

-- an address of two words gets its displacement from the second one alone
ea_given : (f : Format) (w w1 v : ℕ) (e : Ea) → words_of_mode e.mode ≡ 2 → ea_in f w w1 ≡ Some e → ea_in f w v ≡ Some (record e { disp = v })
ea_given Format.Mem w w1 v e two h = parts (mode_in w) h
  where
    parts : (m : Option Mode) → option_and_then (λ m. if_scaled (address_in m w w1)) m ≡ Some e → option_and_then (λ m. if_scaled (address_in m w v)) m ≡ Some (record e { disp = v })
    parts None h = absurd (cc)
    parts (Some m) h =
        let same = taken (nat_lt (address_in m w w1).scale 5) (address_in m w w1) e h in
        let long : words_of_mode m ≡ 2 = ap (λ (x : Ea). words_of_mode x.mode) same ∙ two in
        ap if_scaled (two_words m w w1 v long) ∙ shown (nat_lt (address_in m w w1).scale 5) (address_in m w w1) e v h
ea_given _ w w1 v e two h = absurd (one (ap (option_map (λ (x : Ea). words_of_mode x.mode)) h) two)
  where
    one : {n : ℕ} → ◌≡◌ {A = Option ℕ} (Some 1) (Some n) → n ≡ 2 → ⊥
    one h two = cc

-- an instruction of two words that was decoded with another second word
pub second_given : (w w1 v : ℕ) (i : Inst) → words_of i ≡ 2 → decoded w w1 ≡ Ok i → decoded w v ≡ Ok (record i { ea = record i.ea { disp = v } })
second_given w w1 v i two h =
    let e = decoded_encodes w w1 i h in
    encodes_decoded w v (record i { ea = record i.ea { disp = v } }) (record { name = e.name; a = e.a; b = e.b; c = e.c; ea = ea_given (row_of i.op).format w w1 v i.ea two e.ea; disp = e.disp; hint = e.hint })

-- what is decoded is valid
pub decoded_valid : (w w1 : ℕ) (i : Inst) → w1 < 2 ^ 32 → decoded w w1 ≡ Ok i → IsValid i
decoded_valid w w1 i few h = encodes_valid w w1 i few (decoded_encodes w w1 i h)

-- ---- the fetch

-- the first word is read first
pub first_met : (s : State) (a : ℕ) → read_hazard s.frames s.ip 4 ≡ Some a → fetch_hazard s ≡ Some a
unfolding fetch_hazard
first_met s a h = ap (λ (o : Option ℕ). or_else o (second_hazard s (decoded (first_word s) (next_word s)))) h

-- where it has no hazard, the second one may have one
clear_fetch : (s : State) (r : Result Inst BadWord) → read_hazard s.frames s.ip 4 ≡ None → decoded (first_word s) (next_word s) ≡ r → fetch_hazard s ≡ second_hazard s r
unfolding fetch_hazard
clear_fetch s r clear read = ap (λ (o : Option ℕ). or_else o (second_hazard s (decoded (first_word s) (next_word s)))) clear ∙ ap (second_hazard s) read

-- a word that is refused has no second one
pub refused_fetch : (s : State) (e : BadWord) → read_hazard s.frames s.ip 4 ≡ None → decoded (first_word s) (next_word s) ≡ Err e → fetch_hazard s ≡ None
refused_fetch s e = clear_fetch s (Err e)

pub refused_fetch_by : (s : State) (first : ℕ) (e : BadWord) → read_hazard s.frames s.ip 4 ≡ None → first ≡ first_word s → decoded first 0 ≡ Err e → fetch_hazard s ≡ None
refused_fetch_by s first e clear here read =
    refused_fetch s e clear (sym (ap (λ (w : ℕ). decoded w (next_word s)) here) ∙ refusal_free first 0 (next_word s) e read)

pub short_fetch : (s : State) (i : Inst) → read_hazard s.frames s.ip 4 ≡ None → decoded (first_word s) (next_word s) ≡ Ok i → words_of i ≡ 1 → fetch_hazard s ≡ None
short_fetch s i clear read one = clear_fetch s (Ok i) clear read ∙ ap (λ (n : ℕ). cond (n == 2) (read_hazard s.frames (wrapped (s.ip + 4)) 4) None) one

pub long_fetch : (s : State) (i : Inst) → read_hazard s.frames s.ip 4 ≡ None → decoded (first_word s) (next_word s) ≡ Ok i → words_of i ≡ 2 → fetch_hazard s ≡ read_hazard s.frames (wrapped (s.ip + 4)) 4
long_fetch s i clear read two = clear_fetch s (Ok i) clear read ∙ ap (λ (n : ℕ). cond (n == 2) (read_hazard s.frames (wrapped (s.ip + 4)) 4) None) two

-- ---- what a decode cache has read

one_word : (m : Mode) → (words_of_mode m == 2) ≡ false → words_of_mode m ≡ 1
one_word Offset short = refl
one_word _ short = cc

-- an instruction of one word
pub short_read : (s : State) (m : DecodeCache) → read_hazard s.frames s.ip 4 ≡ None → (words_in m).first ≡ first_word s
    → (words_of (inst_in m) == 2) ≡ false → IsRead s m
short_read s m clear first short =
    let i = inst_in m in
    let one = one_word i.ea.mode short in
    let none = (last_of m).short ∙ ap (λ (b : Bool). cond b (last_of m).words.second 0) short in
    let read = sym (ap (λ (w : ℕ). decoded w (next_word s)) first) ∙ second_free (last_of m).words.first (last_of m).words.second (next_word s) i one (last_of m).read in
    record {
      clear = short_fetch s i clear read one;
      read = read;
      valid = decoded_valid (last_of m).words.first 0 i (omega arith) (sym (ap (decoded (last_of m).words.first) none) ∙ (last_of m).read);
      words = record { first = first; second = none ∙ sym (ap (λ (b : Bool). cond b (next_word s) 0) short) };
    }

-- where the second word of one that has two is still to be read, its hazard is that of the fetch
pub long_met : (s : State) (m : DecodeCache) → read_hazard s.frames s.ip 4 ≡ None → (words_in m).first ≡ first_word s
    → words_of (inst_in m) ≡ 2 → fetch_hazard s ≡ read_hazard s.frames (wrapped (s.ip + 4)) 4
long_met s m clear first long =
    let given = second_given (last_of m).words.first (last_of m).words.second (next_word s) (inst_in m) long (last_of m).read in
    long_fetch s _ clear (sym (ap (λ (w : ℕ). decoded w (next_word s)) first) ∙ given) long

-- an instruction of two words
pub long_read : (s : State) (m : DecodeCache) → read_hazard s.frames s.ip 4 ≡ None
    → read_hazard s.frames (wrapped (s.ip + 4)) 4 ≡ None → (words_in m).first ≡ first_word s
    → (words_in m).second ≡ next_word s → words_of (inst_in m) ≡ 2 → IsValid (inst_in m) → IsRead s m
long_read s m clear free first second long valid =
    record {
      clear = long_met s m clear first long ∙ free;
      read = sym (ap (λ (w : ℕ). decoded w (next_word s)) first) ∙ sym (ap (decoded (last_of m).words.first) second) ∙ (last_of m).read;
      valid = valid;
      words = record { first = first; second = second ∙ sym (ap (λ (n : ℕ). cond (n == 2) (next_word s) 0) long) };
    }

pub ruleset fetch_rules = (first_met, refused_fetch, refusal_free)
