-- Where going over bytes stops is the first refusal that applies, and where it does not, they are a class file.
use Rattle.std.proofs.Common.{◌≡◌, ◌≢◌, ℕ, ◌+◌, ◌<◌, ◌≤◌, false, not, eqb, List, [], ◌∷◌, ◌++◌, length, take, drop, Option, Some, None, Result, Ok, Err, refl, sym, ap, subst, ◌∙◌, arith, inl, inr, length-append, eq-eqb}
use Rattle.std.proofs.lemmas.Bool.{cases_eq, eqb-true}
use Rattle.std.proofs.lemmas.List.{take_at, take_all, take-append-drop, append-nil, nil_from_length, length-drop}
use Rattle.jc_base.specs.Cursor.{Reading}
use Rattle.jc_base.specs.Endian.{big_number}
use Rattle.jc_view.specs.declared.parse_error.ParseError.{ParseError}
use Rattle.jc_view.specs.declared.parse_error.ParseError.TheVariants as errors
use Rattle.jc_view.specs.ClassFile.{ClassFile, magic, layout}
use Rattle.jc_view.specs.Reading.{◌>>=◌, or_refusal, unless, moved_to, with_front, pool_at, entries_from, head_at, after_tail, NumbersRead, numbers_value, last_at, PartsRead, parts_at, class_value}
use Rattle.jc_view.specs.Refusal.{IsLayoutOf, pool_size, Applies, refusal_number, IsRefusal, HasHead}
use Rattle.jc_view.specs.inside.ConstantPlaces.{Holds}
use Rattle.jc_view.proofs.reading.BigEndian.{IsBytes, IsBytes-drop}
use Rattle.jc_view.proofs.reading.Steps.{bind_ok, bind_err, or_ok, or_err, unless_ok, unless_err, err_is}
use Rattle.jc_view.proofs.reading.FirstConstant.{ok_is}
use Rattle.jc_view.proofs.reading.PoolStops.{Stops, pool_stops, tag_stops, wide_stops, front_err}
use Rattle.jc_view.proofs.reading.Heads.{start, good_head, too_short, no_magic, no_version, no_count, good, head_is, head_magic, head_version, head_count, not_false, not_true}
use Rattle.jc_view.proofs.reading.ClassFiles.{whole_takes}
use Rattle.jc_view.proofs.refusals.Fronts.{old_pool, count_in, parts_of, follow, begins, no_front}

pool_applies : (b : List ℕ) (e : ParseError) → HasHead b → parts_at (start b) ≡ Err e → Stops (pool_size b) (old_pool b) e → Applies e b
pool_applies b (errors.Tag at) head h stops = (head.long, stops.0, stops.1)
pool_applies b (errors.Wide at) head h stops = (head.long, stops.0, stops.1, stops.2)
pool_applies b errors.Short head h stops = no_front b h
pool_applies b errors.Magic head h stops = absurd stops
pool_applies b errors.Version head h stops = absurd stops
pool_applies b errors.Count head h stops = absurd stops
pool_applies b (errors.Trailing at) head h stops = absurd stops
pool_applies b errors.NoName head h stops = absurd stops
pool_applies b errors.NoMemory head h stops = absurd stops

applies_by : (b : List ℕ) (d e : ParseError) → d ≡ e → Applies d b → Applies e b
applies_by b d e same h = subst (λ (x : ParseError). Applies x b) same h

pool_err : (front : List (Option ℕ)) (read : Result (List (Option ℕ) × Reading) ParseError) (e : ParseError) → with_front front read ≡ Err e → read ≡ Err e
pool_err front (Ok x) e h = absurd cc
pool_err front (Err d) e h = ap (λ (x : ParseError). Err x) (err_is d e h)

trailing_applies : (b : List ℕ) (pool : List (Option ℕ) × Reading) (rest : List ℕ) → IsBytes b → HasHead b → pool_at (count_in b) (old_pool b) ≡ Ok pool → after_tail pool.1.rest ≡ Some rest → length rest ≢ 0
    → Applies (errors.Trailing (moved_to pool.1 rest).place) b
trailing_applies b pool rest fits head read behind some =
    let w = whole_takes b pool rest fits head read behind in
    let c = class_value b pool.0 pool.1.place in
    let at = (moved_to pool.1 rest).place in
    let len : length b ≡ length (layout c) + length rest = ap length w.0.parts ∙ length-append (layout c) rest in
    let here : at ≡ length (layout c) = omega (arith, w.1.end, len) in
    let front : layout c ≡ take at b = sym (ap (take at) w.0.parts ∙ take_at (layout c) rest at (sym here)) in
    (omega (arith, here, len), c, record { fits = w.0.fits; bytes = front })

pub good_of : (b : List ℕ) (found : ℕ × Reading) → head_at (start b) ≡ Ok found → HasHead b × ◌≡◌ {A = ℕ × Reading} (count_in b, old_pool b) found
good_of b found e =
    elim (head_is b) [
      | too_short lt h ↦ absurd (let impossible = sym h ∙ e in cc)
      | no_magic long h ↦ absurd (let impossible = sym (head_magic b long h) ∙ e in cc)
      | no_version long m h ↦ absurd (let impossible = sym (head_version b long m h) ∙ e in cc)
      | no_count long m v h ↦ absurd (let impossible = sym (head_count b long m v h) ∙ e in cc)
      | good head ↦ (head, ok_is _ _ (sym (good_head b head) ∙ e))
    ]

head_applies : (b : List ℕ) (e : ParseError) → parts_at (start b) ≡ Err e → head_at (start b) ≡ Err e → Applies e b
head_applies b e h stops =
    elim (head_is b) [
      | too_short lt short ↦ let same = err_is errors.Short e (sym short ∙ stops) in applies_by b errors.Short e same (no_front b (h ∙ ap (λ (x : ParseError). Err x) (sym same)))
      | no_magic long m ↦ applies_by b errors.Magic e (err_is errors.Magic e (sym (head_magic b long m) ∙ stops)) (long, m)
      | no_version long m v ↦ applies_by b errors.Version e (err_is errors.Version e (sym (head_version b long m v) ∙ stops)) (long, v)
      | no_count long m v n ↦ applies_by b errors.Count e (err_is errors.Count e (sym (head_count b long m v n) ∙ stops)) (long, n)
      | good head ↦ absurd (let impossible = sym (good_head b head) ∙ stops in cc)
    ]

abbrev last_of : (pool : List (Option ℕ) × Reading) → NumbersRead × Reading → Result (PartsRead × Reading) ParseError
last_of pool last = Ok (record { places = pool.0; tail = pool.1.place; numbers = last.0 }, last.1)

pub parts_apply : (b : List ℕ) (e : ParseError) → IsBytes b → parts_at (start b) ≡ Err e → Applies e b
unfolding parts_at last_at
parts_apply b e fits h =
    elim (bind_err (head_at (start b)) (λ head. pool_at head.0 head.1 >>= λ pool. last_at pool.1 >>= λ last. last_of pool last) e h) [
      | inl stops ↦ head_applies b e h stops
      | inr a ↦
          let g = good_of b a.0 a.1 in
          let read : (pool_at (count_in b) (old_pool b) >>= λ pool. last_at pool.1 >>= λ last. last_of pool last) ≡ Err e =
          ap (λ (x : ℕ × Reading). pool_at x.0 x.1 >>= λ pool. last_at pool.1 >>= λ last. last_of pool last) g.1 ∙ a.2 in
          elim (bind_err (pool_at (count_in b) (old_pool b)) (λ pool. last_at pool.1 >>= λ last. last_of pool last) e read) [
            | inl stops ↦ pool_applies b e g.0 h (pool_stops (pool_size b) (old_pool b) e (IsBytes-drop 10 b fits) (pool_err (None ∷ []) (entries_from (pool_size b) false (old_pool b)) e stops))
            | inr pool ↦ elim (bind_err (last_at pool.0.1) (last_of pool.0) e pool.2) [
              | inr ok ↦ absurd (let impossible = ok.2 in cc)
              | inl last ↦ elim (bind_err (or_refusal (after_tail pool.0.1.rest) errors.Short) (λ rest. unless (not (eqb (length rest) 0)) (errors.Trailing (moved_to pool.0.1 rest).place) >>= λ at_end. Ok (numbers_value pool.0.1.rest, moved_to pool.0.1 rest)) e last) [
                | inl cut ↦ let same = (or_err _ errors.Short e cut).1 in applies_by b errors.Short e same (no_front b (h ∙ ap (λ (x : ParseError). Err x) (sym same)))
                | inr rest ↦ elim (bind_err (unless (not (eqb (length rest.0) 0)) (errors.Trailing (moved_to pool.0.1 rest.0).place)) (λ at_end. Ok (numbers_value pool.0.1.rest, moved_to pool.0.1 rest.0)) e rest.2) [
                  | inr ok ↦ absurd (let impossible = ok.2 in cc)
                  | inl more ↦
                      let u = unless_err (not (eqb (length rest.0) 0)) (errors.Trailing (moved_to pool.0.1 rest.0).place) e more in
                      let some : length rest.0 ≢ 0 = λ none. absurd (let test = not_true _ u.0 in let same = eq-eqb (length rest.0) 0 none in cc) in
                      applies_by b _ e u.1 (trailing_applies b pool.0 rest.0 fits g.0 pool.1 (or_ok _ _ _ rest.1) some)
                ]
              ]
            ]
          ]
    ]

-- ---- what was gone over is a class file

pub record IsFound (b : List ℕ) (found : PartsRead) : Type 0 where
  pub holds : Holds b found.places (class_value b found.places found.tail)
  pub numbers : found.numbers ≡ numbers_value (drop found.tail b)

found_by : (b : List ℕ) (pool : List (Option ℕ) × Reading) (rest : List ℕ) → IsBytes b → HasHead b → pool_at (count_in b) (old_pool b) ≡ Ok pool → after_tail pool.1.rest ≡ Some rest → length rest ≡ 0 → IsFound b (parts_of pool)
found_by b pool rest fits head read behind none =
    let w = whole_takes b pool rest fits head read behind in
    let c = class_value b pool.0 pool.1.place in
    let empty : rest ≡ [] = nil_from_length rest none in
    record {
      holds = record { fits = w.0.fits; layout = sym (w.0.parts ∙ ap (λ (xs : List ℕ). layout c ++ xs) empty ∙ append-nil (layout c)); are_places = w.0.are_places };
      numbers = ap numbers_value w.1.rest;
    }

-- bytes that were gone over to their end
pub record IsGoneOver (b : List ℕ) (found : PartsRead × Reading) : Type 0 where
  pub head : HasHead b
  pub pool : List (Option ℕ) × Reading
  pub read : pool_at (count_in b) (old_pool b) ≡ Ok pool
  pub rest : List ℕ
  pub behind : after_tail pool.1.rest ≡ Some rest
  pub none : length rest ≡ 0
  pub same : ◌≡◌ {A = PartsRead × Reading} (parts_of pool, moved_to pool.1 rest) found

pub gone_over : (b : List ℕ) (found : PartsRead × Reading) → parts_at (start b) ≡ Ok found → IsGoneOver b found
unfolding parts_at last_at
gone_over b found h =
    let a = bind_ok (head_at (start b)) (λ head. pool_at head.0 head.1 >>= λ pool. last_at pool.1 >>= λ last. last_of pool last) found h in
    let g = good_of b a.0 a.1 in
    let read : (pool_at (count_in b) (old_pool b) >>= λ pool. last_at pool.1 >>= λ last. last_of pool last) ≡ Ok found =
    ap (λ (x : ℕ × Reading). pool_at x.0 x.1 >>= λ pool. last_at pool.1 >>= λ last. last_of pool last) g.1 ∙ a.2 in
    let pool = bind_ok (pool_at (count_in b) (old_pool b)) (λ pool. last_at pool.1 >>= λ last. last_of pool last) found read in
    let last = bind_ok (last_at pool.0.1) (last_of pool.0) found pool.2 in
    let rest = bind_ok (or_refusal (after_tail pool.0.1.rest) errors.Short) (λ rest. unless (not (eqb (length rest) 0)) (errors.Trailing (moved_to pool.0.1 rest).place) >>= λ at_end. Ok (numbers_value pool.0.1.rest, moved_to pool.0.1 rest)) last.0 last.1 in
    let end = bind_ok (unless (not (eqb (length rest.0) 0)) (errors.Trailing (moved_to pool.0.1 rest.0).place)) (λ at_end. Ok (numbers_value pool.0.1.rest, moved_to pool.0.1 rest.0)) last.0 rest.2 in
    let same_last : ◌≡◌ {A = NumbersRead × Reading} (numbers_value pool.0.1.rest, moved_to pool.0.1 rest.0) last.0 = ok_is _ _ end.2 in
    record {
      head = g.0;
      pool = pool.0;
      read = pool.1;
      rest = rest.0;
      behind = or_ok _ _ _ rest.1;
      none = eqb-true _ _ (not_false _ (unless_ok _ _ _ end.1));
      same = ap (λ (x : NumbersRead × Reading). (record { places = pool.0.0; tail = pool.0.1.place; numbers = x.0 }, x.1)) same_last ∙ ok_is _ _ last.2;
    }

pub parts_found : (b : List ℕ) (found : PartsRead × Reading) → IsBytes b → parts_at (start b) ≡ Ok found → IsFound b found.0
parts_found b found fits h =
    let g = gone_over b found h in
    subst (λ (x : PartsRead × Reading). IsFound b x.0) g.same (found_by b g.pool g.rest fits g.head g.read g.behind g.none)

-- ---- nothing earlier applies

-- a refusal that applies is answered, or one before it
abbrev Refused : ParseError → List ℕ → Type 0
Refused f b = (e : ParseError) × (parts_at (start b) ≡ Err e) × (refusal_number e ≤ refusal_number f)

head_refused : (b : List ℕ) (e : ParseError) → head_at (start b) ≡ Err e → parts_at (start b) ≡ Err e
unfolding parts_at
head_refused b e h = rw h refl

pool_refused : (b : List ℕ) (e : ParseError) → HasHead b → entries_from (pool_size b) false (old_pool b) ≡ Err e → parts_at (start b) ≡ Err e
unfolding parts_at
pool_refused b e head h =
    let read : pool_at (count_in b) (old_pool b) ≡ Err e = front_err (None ∷ []) _ e h in
    rw (good_head b head, read) refl

-- either one of the first three is answered, or the head is good
by_head : (b : List ℕ) (f : ParseError) → 10 ≤ length b → 3 ≤ refusal_number f → (HasHead b → Refused f b) → Refused f b
by_head b f long later then_so =
    elim (head_is b) [
      | too_short lt h ↦ absurd (omega arith)
      | no_magic l m ↦ (errors.Magic, head_refused b errors.Magic (head_magic b l m), omega arith)
      | no_version l m v ↦ (errors.Version, head_refused b errors.Version (head_version b l m v), omega arith)
      | no_count l m v n ↦ (errors.Count, head_refused b errors.Count (head_count b l m v n), omega arith)
      | good head ↦ then_so head
    ]

version_refused : (b : List ℕ) → Applies errors.Version b → Refused errors.Version b
version_refused b h =
    elim (cases_eq (big_number 4 b) magic) [
      | inl m ↦ (errors.Version, head_refused b errors.Version (head_version b h.0 m h.1), omega arith)
      | inr m ↦ let long = h.0 in (errors.Magic, head_refused b errors.Magic (head_magic b (omega arith) m), omega arith)
    ]

trailing_refused : (b : List ℕ) (at : ℕ) → Applies (errors.Trailing at) b → Refused (errors.Trailing at) b
trailing_refused b at h =
    let c = h.1 in
    let here = h.2 in
    let split : layout c ++ drop at b ≡ b = ap (λ (xs : List ℕ). xs ++ drop at b) here.bytes ∙ take-append-drop at b in
    let lt = h.0 in
    let some : length (drop at b) ≢ 0 = λ none. absurd (omega (arith, length-drop at b)) in
    (errors.Trailing (length (layout c)), sym (ap (λ (xs : List ℕ). parts_at (start xs)) split) ∙ follow c (drop at b) here.fits some, omega arith)

-- the refusals from Magic to Trailing
pub earlier : (b : List ℕ) (f : ParseError) → refusal_number f < 7 → Applies f b → Refused f b
earlier b errors.Magic lt h = (errors.Magic, head_refused b errors.Magic (head_magic b h.0 h.1), omega arith)
earlier b errors.Version lt h = version_refused b h
earlier b errors.Count lt h = by_head b errors.Count h.0 (omega arith) (λ head. absurd (head.count h.1))
earlier b (errors.Tag at) lt h = by_head b (errors.Tag at) h.0 (omega arith) (λ head. (errors.Tag at, pool_refused b (errors.Tag at) head (tag_stops (pool_size b) (old_pool b) at h.1 h.2), omega arith))
earlier b (errors.Wide at) lt h = by_head b (errors.Wide at) h.0 (omega arith) (λ head. (errors.Wide at, pool_refused b (errors.Wide at) head (wide_stops (pool_size b) (old_pool b) at h.1 h.2 h.3), omega arith))
earlier b (errors.Trailing at) lt h = trailing_refused b at h
earlier b errors.Short lt h = absurd (omega arith)
earlier b errors.NoName lt h = absurd (omega arith)
earlier b errors.NoMemory lt h = absurd (omega arith)

-- bytes that are a class file's are refused by none
not_refused : (b : List ℕ) (c : ClassFile) (e : ParseError) → IsLayoutOf c b → parts_at (start b) ≡ Err e → (at : ℕ) × (e ≡ errors.Trailing at)
not_refused b c e here h =
    let text : layout c ++ [] ≡ b = append-nil (layout c) ∙ here.bytes in
    elim (begins c [] here.fits) [
      | inl ok ↦ absurd (let impossible = sym ok.1 ∙ ap (λ (xs : List ℕ). parts_at (start xs)) text ∙ h in cc)
      | inr more ↦ (length (layout c), sym (err_is _ e (sym more ∙ ap (λ (xs : List ℕ). parts_at (start xs)) text ∙ h)))
    ]

below_eight : (b : List ℕ) (e : ParseError) → parts_at (start b) ≡ Err e → Applies e b → refusal_number e < 8
below_eight b errors.Magic h a = omega arith
below_eight b errors.Version h a = omega arith
below_eight b errors.Count h a = omega arith
below_eight b (errors.Tag at) h a = omega arith
below_eight b (errors.Wide at) h a = omega arith
below_eight b (errors.Trailing at) h a = omega arith
below_eight b errors.Short h a = omega arith
below_eight b errors.NoName h a = absurd (let t = (not_refused b a.0 errors.NoName a.1 h).1 in cc)
below_eight b errors.NoMemory h a = absurd a

none_before : (b : List ℕ) (e f : ParseError) → parts_at (start b) ≡ Err e → refusal_number e < 8 → refusal_number f < refusal_number e → ¬ Applies f b
none_before b e f h below lt there =
    let r = earlier b f (omega arith) there in
    let same : r.0 ≡ e = err_is r.0 e (sym r.1 ∙ h) in
    let no_later : refusal_number e ≤ refusal_number f = subst (λ (x : ParseError). refusal_number x ≤ refusal_number f) same r.2 in
    absurd (omega arith)

pub is_refusal : (b : List ℕ) (e : ParseError) → IsBytes b → parts_at (start b) ≡ Err e → IsRefusal b e
is_refusal b e fits h =
    let a = parts_apply b e fits h in
    record { applies = a; first = λ f lt there. none_before b e f h (below_eight b e h a) lt there }

none_before_name : (b : List ℕ) (found : PartsRead × Reading) (c : ClassFile) (f : ParseError) → parts_at (start b) ≡ Ok found → IsLayoutOf c b → refusal_number f < 8 → ¬ Applies f b
none_before_name b found c errors.Magic h here lt there = let r = earlier b errors.Magic (omega arith) there in let impossible = sym r.1 ∙ h in absurd cc
none_before_name b found c errors.Version h here lt there = let r = earlier b errors.Version (omega arith) there in let impossible = sym r.1 ∙ h in absurd cc
none_before_name b found c errors.Count h here lt there = let r = earlier b errors.Count (omega arith) there in let impossible = sym r.1 ∙ h in absurd cc
none_before_name b found c (errors.Tag at) h here lt there = let r = earlier b (errors.Tag at) (omega arith) there in let impossible = sym r.1 ∙ h in absurd cc
none_before_name b found c (errors.Wide at) h here lt there = let r = earlier b (errors.Wide at) (omega arith) there in let impossible = sym r.1 ∙ h in absurd cc
none_before_name b found c (errors.Trailing at) h here lt there = let r = earlier b (errors.Trailing at) (omega arith) there in let impossible = sym r.1 ∙ h in absurd cc
none_before_name b found c errors.Short h here lt there =
    there (length b) c (record { fits = here.fits; bytes = here.bytes ∙ sym (take_all (length b) b (omega arith)) })
none_before_name b found c errors.NoName h here lt there = absurd (omega arith)
none_before_name b found c errors.NoMemory h here lt there = absurd (omega arith)

-- a class file without a name
pub no_name : (b : List ℕ) (found : PartsRead × Reading) → parts_at (start b) ≡ Ok found → Applies errors.NoName b → IsRefusal b errors.NoName
no_name b found h a = record { applies = a; first = λ f lt there. none_before_name b found a.0 f h a.1 lt there }
