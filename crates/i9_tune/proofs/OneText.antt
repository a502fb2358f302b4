-- A block that stands in an image may be tuned, and there is one text of it.
use Rattle.std.proofs.Common.{◌≡◌, ℕ, zero, suc, ◌+◌, ◌*◌, ◌^◌, ◌<◌, Bool, true, false, cond, List, [], ◌∷◌, ◌++◌, Option, Some, None, Result, Ok, Err, refl, sym, ap, ◌∙◌, subst, arith}
use Rattle.std.specs.Prelude.{◌==◌}
use Rattle.std.specs.List.{AllByRecursion, flat_map}
use Rattle.std.specs.Int.{w32, from_le_bytes}
use Rattle.std.proofs.lemmas.Bool.{cond_both}
use Rattle.std.proofs.lemmas.List.{append-nil}
use Rattle.std.proofs.lemmas.Nat.{and_le_l}
use Rattle.i9_isa.specs.declared.inst.Inst.{Inst}
use Rattle.i9_isa.specs.declared.inst.BadWord.{BadWord}
use Rattle.i9_isa.specs.Valid.{IsValid}
use Rattle.i9_isa.specs.Words.{words_of, decoded}
use Rattle.i9_isa.proofs.Decoding.{decoded_encodes}
use Rattle.i9_decode.specs.Ignored.{ignored_bits}
use Rattle.i9_decode.proofs.ValidWords.{encodes_valid}
use Rattle.i9_model.specs.Writes.{wrapped, or_earlier, last_put}
use Rattle.i9_hex.specs.Writing.{with_line_feed}
use Rattle.i9_statement.specs.declared.fault.Noted.{Noted}
use Rattle.i9_statement.specs.Noted.{fine}
use Rattle.i9_statement.specs.Values.{Names}
use Rattle.i9_statement.specs.declared.statements.Statement.{Statement}
use Rattle.i9_statement.specs.Statements.{said, statement_of, statement_text}
use Rattle.i9_statement.specs.Codes.{IsCode, Stands, stands_one, stands_two}
use Rattle.i9_statement.proofs.ReadStatements.{statement_of-text}
use Rattle.i9_statement.proofs.SomeWords.{some_words}
use Rattle.i9_statement.proofs.StatementWords.{stands_once}
use Rattle.i9_asm.specs.Listing.{org_line}
use Rattle.i9_tune.specs.declared.block.Flaw.{Flaw}
use Rattle.i9_tune.specs.declared.block.BlockFault.{BlockFault}
use Rattle.i9_tune.specs.Blocks.{is_allowed}
use Rattle.i9_tune.specs.Greedy.{AreTunable, IsTuned}
use Rattle.i9_tune.specs.Reading.{IsFitting, fitting, by_second, is_long, by_first, word_of, word_at, inst_at, put_first, block_by, block_at}
use Rattle.i9_tune.specs.Tuning.{IsCodeOf, one_word, two_words, AreCodes, no_codes, more_codes, code_lines, spans_line, IsText, IsTuning}
use Rattle.i9_tune.proofs.Depend.{IsTunable}
use Rattle.i9_tune.proofs.OneOrder.{some_tuned, one_tuned}
use Rattle.i9_tune.proofs.Orders.{order_keeps}
use Rattle.i9_tune.proofs.Tuned.{tuned_order}

-- ---- the words of an instruction, as those of its statement

no_names : Names
no_names name = None

own_text : (i : Inst) → IsValid i → statement_of 0 no_names (statement_text 0 i 0) ≡ fine (said i 0)
own_text i valid =
    ap (statement_of 0 no_names) (sym (append-nil (statement_text 0 i 0)))
    ∙ statement_of-text 0 no_names i 0 false (omega arith) (omega arith) valid (let le = and_le_l 0 (ignored_bits i) in omega (arith, le))

code_stands : (i : Inst) (ws : List ℕ) → IsValid i → IsCodeOf i ws → Stands no_names 0 (statement_text 0 i 0) ws
code_stands i ws valid (one_word w one code) = stands_one i 0 w (own_text i valid) one code
code_stands i ws valid (two_words w v two code) = stands_two i 0 w v (own_text i valid) two code

code_once : (i : Inst) (ws vs : List ℕ) → IsValid i → IsCodeOf i ws → IsCodeOf i vs → ws ≡ vs
code_once i ws vs valid a b = stands_once no_names 0 (statement_text 0 i 0) ws vs (code_stands i ws valid a) (code_stands i vs valid b)

same_said : (i j : Inst) (b : ℕ) → IsValid i → statement_of 0 no_names (statement_text 0 i 0) ≡ fine (said j b) → ◌≡◌ {A = Statement} (said j b) (said i 0)
same_said i j b valid read = ap (λ (n : Noted Statement). n.value) (sym read ∙ own_text i valid)

stands_code : (i : Inst) (ws : List ℕ) → IsValid i → Stands no_names 0 (statement_text 0 i 0) ws → IsCodeOf i ws
stands_code i ws valid (stands_one j b w read one code) =
    let same = same_said i j b valid read in
    one_word w (sym (ap (λ (s : Statement). words_of s.inst) same) ∙ one) (λ v. subst (λ (s : Statement). IsCode s.inst s.spare w v) same (code v))
stands_code i ws valid (stands_two j b w v read two code) =
    let same = same_said i j b valid read in
    two_words w v (sym (ap (λ (s : Statement). words_of s.inst) same) ∙ two) (subst (λ (s : Statement). IsCode s.inst s.spare w v) same code)

some_code : (i : Inst) → IsValid i → (ws : List ℕ) × IsCodeOf i ws
some_code i valid =
    let words = some_words no_names 0 (statement_text 0 i 0) (ap (λ (n : Noted Statement). n.fault) (own_text i valid)) in
    (words.0, stands_code i words.0 valid words.1)

-- ---- those of a block

codes_once : (is : List Inst) (c d : List (List ℕ)) → AreTunable is → AreCodes is c → AreCodes is d → c ≡ d
codes_once [] c d ok no_codes no_codes = refl
codes_once (i ∷ is) c d ok (more_codes _ _ ws wss w more) (more_codes _ _ vs vss v others) =
    ap (λ (us : List ℕ). us ∷ wss) (code_once i ws vs ok.0.0 w v) ∙ ap (λ (uss : List (List ℕ)). vs ∷ uss) (codes_once is wss vss ok.1 more others)

some_codes : (is : List Inst) → AreTunable is → (c : List (List ℕ)) × AreCodes is c
some_codes [] ok = ([], no_codes)
some_codes (i ∷ is) ok =
    let one = some_code i ok.0.0 in
    let more = some_codes is ok.1 in
    (one.0 ∷ more.0, more_codes i is one.0 more.0 one.1 more.1)

-- ---- the text

tuned_tunable : (block tuned : List Inst) → AreTunable block → IsTuned block tuned → AreTunable tuned
tuned_tunable block tuned ok is = order_keeps IsTunable block tuned (tuned_order block tuned ok is) ok

text_once : (a : ℕ) (block tuned : List Inst) (t u : List ℕ) → AreTunable tuned → IsText a block tuned t → IsText a block tuned u → t ≡ u
text_once a block tuned t u ok x y = rw (x.whole, y.whole, codes_once tuned x.codes y.codes ok x.words y.words) refl

pub one_tuning : (a : ℕ) (block : List Inst) (t u : List ℕ) → AreTunable block → IsTuning a block t → IsTuning a block u → t ≡ u
one_tuning a block t u ok x y =
    let same = one_tuned block x.tuned y.tuned x.is y.is in
    text_once a block y.tuned t u (tuned_tunable block y.tuned ok y.is) (subst (λ (tuned : List Inst). IsText a block tuned t) same x.lines) y.lines

pub some_tuning : (a : ℕ) (block : List Inst) → AreTunable block → (text : List ℕ) × IsTuning a block text
some_tuning a block ok =
    let tuned = some_tuned block in
    let codes = some_codes tuned.0 (tuned_tunable block tuned.0 ok tuned.1) in
    (flat_map with_line_feed (org_line a ∷ (code_lines a codes.0 ++ spans_line a block tuned.0 ∷ [])), record { tuned = tuned.0; is = tuned.1; lines = record { codes = codes.0; words = codes.1; whole = refl } })

-- ---- a block that stands in an image

-- each byte that is loaded is one
abbrev AreBytes : (ℕ → Option ℕ) → Type 0
AreBytes loaded = (x v : ℕ) → loaded x ≡ Some v → v < 256

small_word : (p q r s : Option ℕ) (w : ℕ) → ((v : ℕ) → p ≡ Some v → v < 256) → ((v : ℕ) → q ≡ Some v → v < 256) → ((v : ℕ) → r ≡ Some v → v < 256) → ((v : ℕ) → s ≡ Some v → v < 256)
    → word_of p q r s ≡ Some w → w < 2 ^ 32
small_word (Some a) (Some b) (Some c) (Some d) w p q r s is =
    let e : from_le_bytes w32 (a ∷ b ∷ c ∷ d ∷ []) ≡ w = cc is in
    omega (arith, e, p a refl, q b refl, r c refl, s d refl)
small_word _ _ _ _ w h i j k is = absurd (cc is)

word_small : (loaded : ℕ → Option ℕ) (a w : ℕ) → AreBytes loaded → word_at loaded a ≡ Some w → w < 2 ^ 32
word_small loaded a w bytes is =
    small_word (loaded a) (loaded (wrapped (a + 1))) (loaded (wrapped (a + 2))) (loaded (wrapped (a + 3))) w (bytes a) (bytes (wrapped (a + 1))) (bytes (wrapped (a + 2))) (bytes (wrapped (a + 3))) is

fits_by : (b : Bool) (i j : Inst) → is_allowed i ≡ b → IsValid i → ◌≡◌ {A = Result Inst Flaw} (cond b (Ok i) (Err Flaw.NotAllowed)) (Ok j) → IsFitting j
fits_by true i j e valid is = let same : i ≡ j = cc is in subst IsFitting same (record { valid = valid; allowed = e })
fits_by false i j e valid is = absurd (cc is)

decoded_fits : (w v : ℕ) (j : Inst) (r : Result Inst BadWord) → v < 2 ^ 32 → decoded w v ≡ r → fitting r ≡ Ok j → IsFitting j
decoded_fits w v j (Ok i) small e is = fits_by (is_allowed i) i j refl (encodes_valid w v i small (decoded_encodes w v i e)) is
decoded_fits w v j (Err b) small e is = absurd (cc is)

second_fits : (w : ℕ) (j : Inst) (second : Option ℕ) → ((v : ℕ) → second ≡ Some v → v < 2 ^ 32) → by_second w second ≡ Ok j → IsFitting j
second_fits w j (Some v) small is = decoded_fits w v j (decoded w v) (small v refl) refl is
second_fits w j None small is = absurd (cc is)

first_fits : (j : Inst) (first second : Option ℕ) → ((v : ℕ) → second ≡ Some v → v < 2 ^ 32) → by_first first second ≡ Ok j → IsFitting j
first_fits j None second small is = absurd (cc is)
first_fits j (Some w) second small is =
    cond_both (is_long (decoded w 0)) (by_second w second) (fitting (decoded w 0)) (λ r. r ≡ Ok j → IsFitting j)
    (λ e. second_fits w j second small) (λ e. decoded_fits w 0 j (decoded w 0) (omega arith) refl) is

inst_fits : (loaded : ℕ → Option ℕ) (a : ℕ) (j : Inst) → AreBytes loaded → inst_at loaded a ≡ Ok j → IsFitting j
inst_fits loaded a j bytes is = first_fits j (word_at loaded a) (word_at loaded (wrapped (a + 4))) (λ v. word_small loaded (wrapped (a + 4)) v bytes) is

put_parts : (i : Inst) (r : Result (List Inst) BlockFault) (block : List Inst) → put_first i r ≡ Ok block → (is : List Inst) × (r ≡ Ok is) × (i ∷ is ≡ block)
put_parts i (Ok is) block e = (is, refl, cc e)
put_parts i (Err fault) block e = absurd (cc e)

-- the others fit too, from the next address on
fits_on : (loaded : ℕ → Option ℕ) (n a : ℕ) (block : List Inst) (r : Result Inst Flaw) → AreBytes loaded → ((next : ℕ) (is : List Inst) → block_at loaded n next ≡ Ok is → AreTunable is) → inst_at loaded a ≡ r
    → block_by a r (λ i. block_at loaded n (wrapped (a + 4 * words_of i))) ≡ Ok block → AreTunable block
fits_on loaded n a block (Err flaw) bytes others e is = absurd (cc is)
fits_on loaded n a block (Ok i) bytes others e is =
    let parts = put_parts i (block_at loaded n (wrapped (a + 4 * words_of i))) block is in
    let fits = inst_fits loaded a i bytes e in
    subst AreTunable parts.2 ((fits.valid, fits.allowed), others (wrapped (a + 4 * words_of i)) parts.0 parts.1)

block_fits : (loaded : ℕ → Option ℕ) (n a : ℕ) (block : List Inst) → AreBytes loaded → block_at loaded n a ≡ Ok block → AreTunable block
unfolding block_at
block_fits loaded zero a block bytes is = let none : [] ≡ block = cc is in subst AreTunable none tt
block_fits loaded (suc n) a block bytes is = fits_on loaded n a block (inst_at loaded a) bytes (λ next is there. block_fits loaded n next is bytes there) refl is

later_byte : (o : Option ℕ) (b : Bool) (u v : ℕ) → u < 256 → ((w : ℕ) → o ≡ Some w → w < 256) → or_earlier o (cond b (Some u) None) ≡ Some v → v < 256
later_byte (Some w) b u v h later e = later v e
later_byte None b u v h later e = grind (arith, h, e)

last_byte : (pairs : List (ℕ × ℕ)) → AllByRecursion (λ (p : ℕ × ℕ). p.1 < 256) pairs → AreBytes (last_put pairs)
unfolding last_put
last_byte [] all x v is = absurd (cc is)
last_byte (p ∷ pairs) all x v is = later_byte (last_put pairs x) (x == p.0) p.1 v all.0 (last_byte pairs all.1 x) is

pub image_tunable : (pairs : List (ℕ × ℕ)) (n a : ℕ) (block : List Inst) → AllByRecursion (λ (p : ℕ × ℕ). p.1 < 256) pairs → block_at (last_put pairs) n a ≡ Ok block → AreTunable block
image_tunable pairs n a block all is = block_fits (last_put pairs) n a block (last_byte pairs all) is
