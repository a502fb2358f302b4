-- What reading files does, one after the other.
use Rattle.std.proofs.Common.{◌≡◌, ◌≢◌, ℕ, ◌≤◌, ◌⊎◌, inl, inr, List, [], ◌∷◌, ◌++◌, append-nil, append_assoc, Option, None, Result, Ok, Err, IfOk, refl, sym, ◌∙◌, subst, arith}
use Rattle.i9_outside.specs.Counts.{Rose}
use Rattle.i9_tool.specs.declared.refusal.FileKind.{FileKind}
use Rattle.i9_tool.specs.declared.refusal.InputError.{InputError}
use Rattle.i9_tool.specs.declared.refusal.InputError.TheVariants as errors
use Rattle.i9_tool.specs.FileKinds.{File, file_of, names, Value, Says, IsWhole, IsRead}
use Rattle.i9_tool.specs.Refusals.{Refusal, Unread, TooLong, Faulty, Refuses, unread, faulty, FirstRefusal}
use Rattle.i9_tool.specs.Inputs.{Inputs, AreRead}
use Rattle.i9_tool.specs.CommandLine.{Command}
use Rattle.i9_tool.specs.Fetches.{Shelf, rose_in, AnyRose, AllSure, FetchesFiles, none_left, ends_at, goes_on, Fetches, Stop, Read, Refused, NoMemory, Follows, Behind, IfRefused, FetchesOne, Misses, ReadsFiles}
use Rattle.i9_tool.specs.Outcome.{files_for}
use Rattle.i9_tool.specs.Values.{refusal_by, stop_by, stop_of, Parses}
use Rattle.i9_tool.proofs.Wider.{first_wider}

-- ---- names and counts

rose_before : (a b c : ℕ) → a ≤ b → Rose b c → Rose a c
rose_before a b c below rose = grind arith

all_sure : (sure later : List ℕ → Type 0) (ns : List (List ℕ)) → ((n : List ℕ) → sure n → later n) → AllSure sure ns → AllSure later ns
all_sure sure later [] stays all = tt
all_sure sure later (n ∷ ns) stays all = (stays n all.0, all_sure sure later ns stays all.1)

sure_front : (sure : List ℕ → Type 0) (files others : List File) → AllSure sure (names (files ++ others)) → AllSure sure (names files)
sure_front sure [] others all = tt
sure_front sure (f ∷ files) others all = (all.0, sure_front sure files others all.1)

sure_back : (sure : List ℕ → Type 0) (files others : List File) → AllSure sure (names (files ++ others)) → AllSure sure (names others)
sure_back sure [] others all = all
sure_back sure (f ∷ files) others all = sure_back sure files others all.1

-- ---- refusals

refused_as : (stop : Stop) (P Q : Refusal → Type 0) → ((r : Refusal) → P r → Q r) → IfRefused stop P → IfRefused stop Q
refused_as Read P Q as_well h = tt
refused_as (Refused r) P Q as_well h = as_well r h
refused_as NoMemory P Q as_well h = tt

module _ (told : List ℕ → Option (List ℕ)) (rose : List ℕ → Type 0) where
  -- a refusal of files that others stand before, or behind
  first_behind : (files others : List File) (said : Inputs files) (r : Refusal) → AreRead told files said → FirstRefusal told rose others r → FirstRefusal told rose (files ++ others) r
  first_behind [] others said r read h = h
  first_behind (f ∷ files) others said r read h = inr (said.0, read.0, first_behind files others said.1 r read.1 h)

  first_before : (files others : List File) (r : Refusal) → FirstRefusal told rose files r → FirstRefusal told rose (files ++ others) r
  first_before [] others r h = absurd h
  first_before (f ∷ files) others r (inl h) = inl h
  first_before (f ∷ files) others r (inr h) = inr (h.0, h.1, first_before files others r h.2)

  -- a file that was not read has a count that rose
  unread_rose : (files : List File) → FirstRefusal told rose files Unread → AnyRose rose (names files)
  unread_rose [] h = h
  unread_rose (f ∷ files) (inl (unread h)) = inl h
  unread_rose (f ∷ files) (inr h) = inr (unread_rose files h.2)

-- ---- a file that was fetched whole

module _ (told : List ℕ → Option (List ℕ)) (kind : FileKind) (name bytes items : List ℕ) (same : bytes ≡ items) (whole : IsWhole (told name) items) where
  is_read : (value : Value kind) → Says kind bytes value → IsRead told (file_of kind name) value
  is_read value says = record { bytes = bytes; is_file = rw same whole.is_file; accepted = record { short = rw same whole.short; says = says } }

  pub says_parsed : {T : Type 0} (value : T → Value kind) (result : Result T InputError) → Parses kind value bytes result → IfOk result (λ x. IsRead told (file_of kind name) (value x))
  says_parsed value (Ok x) p = is_read (value x) p
  says_parsed value (Err e) p = tt

-- ---- files

module _ {F : Type 0} (s : Shelf F) where
  -- no file is read
  pub reads_none : (old : F) → ReadsFiles s [] Read old old
  reads_none old = record {
    same = λ n. refl;
    later = λ n. omega arith;
    stays = λ n sure. sure;
    calm = λ sure. (λ e. cc, λ n. refl);
    order = λ others code last rest. rest;
    first = tt;
  }

  -- files are read, and then others
  pub reads_then : (files others : List File) (stop : Stop) (old mid new : F) (said : Inputs files) → ReadsFiles s files Read old mid → AreRead (s.told old) files said
      → ReadsFiles s others stop mid new → ReadsFiles s (files ++ others) stop old new
  reads_then files others stop old mid new said a read b = record {
    same = λ n. b.same n ∙ a.same n;
    later = λ n. let first = a.later n in let next = b.later n in omega (arith, first, next);
    stays = λ n sure. b.stays n (a.stays n sure);
    calm = λ sure.
        let one = a.calm (sure_front (s.sure old) files others sure) in
        let two = b.calm (all_sure (s.sure old) (s.sure mid) (names others) a.stays (sure_back (s.sure old) files others sure)) in
        (two.0, λ n. two.1 n ∙ one.1 n);
    order = λ more code last rest.
        subst (λ (fs : List File). FetchesFiles s code fs old last) (sym (append_assoc files others more))
        (a.order (others ++ more) code last (b.order more code last rest));
    first = refused_as stop _ _
        (λ r h. first_behind (s.told old) (rose_in s.faults old new) files others said r read
        (first_wider (s.told mid) (s.told old) (λ n f is. rw (sym (a.same n)) is) (rose_in s.faults mid new) (rose_in s.faults old new)
        (λ n. rose_before _ _ _ (a.later n)) others r h)) b.first;
  }

  behind_any : (e : InputError) (files others : List File) (code : ℕ) (mid new : F) → Behind s (stop_by e) files code mid new → Behind s (stop_by e) others code mid new
  behind_any (errors.Refused r) files others code mid new h = h
  behind_any errors.Memory files others code mid new h = h

  -- reading stops before others
  pub reads_cut : (files others : List File) (e : InputError) (old new : F) → ReadsFiles s files (stop_by e) old new → ReadsFiles s (files ++ others) (stop_by e) old new
  reads_cut files others e old new a = record {
    same = a.same;
    later = a.later;
    stays = a.stays;
    calm = λ sure. a.calm (sure_front (s.sure old) files others sure);
    order = λ more code last rest.
        subst (λ (fs : List File). FetchesFiles s code fs old last) (sym (append_assoc files others more))
        (a.order (others ++ more) code last (behind_any e more (others ++ more) code new last rest));
    first = refused_as (stop_by e) _ _ (first_before (s.told old) (rose_in s.faults old new) files others) a.first;
  }

  -- ---- one file

  -- it is read, or is refused
  abbrev Judged : File → Stop → F → F → Type 0
  Judged file Read old new = (value : Value file.kind) × IsRead (s.told old) file value
  Judged file (Refused r) old new = Refuses (s.told old) (rose_in s.faults old new) file r
  Judged file NoMemory old new = Unit {0}

  unread_status : (r : Refusal) (code : ℕ) → Refused r ≡ Refused Unread → Follows (Refused r) code → (code ≡ 5) ⊎ (code ≡ 6)
  unread_status Unread code e h = h
  unread_status (TooLong kind) code e h = absurd (cc e)
  unread_status (Faulty kind fault) code e h = absurd (cc e)

  one_order : (file : File) (stop : Stop) (old new : F) → FetchesOne s file.name stop old new → Judged file stop old new
      → (others : List File) (code : ℕ) (last : F) → Behind s stop others code new last → FetchesFiles s code (file ∷ others) old last
  one_order file Read old new o j others code last rest =
      goes_on file others j.0 old new last (record { once = o.once; unread = λ more. absurd (cc (o.unread more)) }) j.1 rest
  one_order file (Refused r) old new o j others code last rest =
      subst (λ (x : F). FetchesFiles s code (file ∷ others) old x) (sym rest.0)
      (ends_at file others old new (record { once = o.once; unread = λ more. unread_status r code (o.unread more) rest.1 }) (inr (r, j)))
  one_order file NoMemory old new o j others code last rest =
      subst (λ (x : F). FetchesFiles s code (file ∷ others) old x) (sym rest.0)
      (ends_at file others old new (record { once = o.once; unread = λ more. absurd (cc (o.unread more)) }) (inl rest.1))

  one_first : (file : File) (stop : Stop) (old new : F) → Judged file stop old new → IfRefused stop (λ r. FirstRefusal (s.told old) (rose_in s.faults old new) (file ∷ []) r)
  one_first file Read old new j = tt
  one_first file (Refused r) old new j = inl j
  one_first file NoMemory old new j = tt

  reads_one : (file : File) (stop : Stop) (old new : F) → FetchesOne s file.name stop old new → Judged file stop old new → ReadsFiles s (file ∷ []) stop old new
  reads_one file stop old new o j = record {
    same = o.same;
    later = o.later;
    stays = o.stays;
    calm = λ sure. o.calm sure.0;
    order = one_order file stop old new o j;
    first = one_first file stop old new j;
  }

  -- one that was not fetched whole
  pub reads_missed : (file : File) (e : InputError) (old new : F) → FetchesOne s file.name (stop_by e) old new → Misses s file (stop_by e) old new → ReadsFiles s (file ∷ []) (stop_by e) old new
  reads_missed file (errors.Refused r) old new o m = reads_one file (Refused (refusal_by r)) old new o m
  reads_missed file errors.Memory old new o m = reads_one file NoMemory old new o tt

  -- one that was fetched whole, whatever its bytes say
  fetched_as : (name : List ℕ) (stop : Stop) (old new : F) → stop ≢ Refused Unread → FetchesOne s name Read old new → FetchesOne s name stop old new
  fetched_as name stop old new other o = record {
    same = o.same;
    later = o.later;
    stays = o.stays;
    once = o.once;
    unread = λ more. absurd (cc (o.unread more));
    calm = λ sure. (other, (o.calm sure).1);
  }

  module _ (kind : FileKind) (name : List ℕ) {T : Type 0} (value : T → Value kind) (bytes items : List ℕ) (same : bytes ≡ items) (old new : F) (whole : IsWhole (s.told old name) items) where
    pub reads_parsed : (result : Result T InputError) → FetchesOne s name Read old new → Parses kind value bytes result → ReadsFiles s (file_of kind name ∷ []) (stop_of result) old new
    reads_parsed (Ok x) o p = reads_one (file_of kind name) Read old new o (value x, is_read (s.told old) kind name bytes items same whole (value x) p)
    reads_parsed (Err (errors.Refused r)) o p =
        reads_one (file_of kind name) (Refused (refusal_by r)) old new (fetched_as name (Refused (refusal_by r)) old new (λ e. cc (e, p.2)) o)
        (rw p.2 (faulty bytes p.0 (rw same whole.is_file) (rw same whole.short) p.1))
    reads_parsed (Err errors.Memory) o p = reads_one (file_of kind name) NoMemory old new (fetched_as name NoMemory old new (λ e. cc) o) tt

  -- ---- the status that follows

  stop_unread : (stop : Stop) (code : ℕ) → Follows stop code → code ≡ 5 → stop ≡ Refused Unread
  stop_unread Read code f five = absurd (f five)
  stop_unread (Refused Unread) code f five = refl
  stop_unread (Refused (TooLong kind)) code f five = absurd (f five)
  stop_unread (Refused (Faulty kind fault)) code f five = absurd (f five)
  stop_unread NoMemory code f five = absurd (omega (arith, f, five))

  behind_none : (stop : Stop) (code : ℕ) (old : F) → Follows stop code → Behind s stop [] code old old
  behind_none Read code old f = none_left old
  behind_none (Refused r) code old f = (refl, f)
  behind_none NoMemory code old f = (refl, f)

  pub fetches_by : (files : List File) (stop : Stop) (code : ℕ) (old new : F) → Follows stop code → ReadsFiles s files stop old new → Fetches s code files old new
  fetches_by files stop code old new f r = record {
    order = subst (λ (fs : List File). FetchesFiles s code fs old new) (append-nil files) (r.order [] code new (behind_none stop code new f));
    read = λ five. unread_rose (s.told old) (rose_in s.faults old new) files (subst (λ (x : Stop). IfRefused x (FirstRefusal (s.told old) (rose_in s.faults old new) files)) (stop_unread stop code f five) r.first);
    calm = λ sure. let c = r.calm sure in (λ five. c.0 (stop_unread stop code f five), c.1);
  }

  -- no file is fetched where nothing is asked for
  pub nothing_fetched : (code : ℕ) (old : F) (asked : Option Command) → None ≡ asked → code ≢ 5 → Fetches s code (files_for asked) old old
  nothing_fetched code old asked none other =
      subst (λ (o : Option Command). Fetches s code (files_for o) old old) none (fetches_by [] Read code old old other (reads_none old))
