-- Texts by number, as one more is asked for.
use Rattle.std.proofs.Common.{◌≡◌, ◌∙◌, ◌⊎◌, inl, inr, ℕ, zero, suc, ◌+◌, ◌<◌, ◌≤◌, List, [], ◌∷◌, ◌++◌, length, map, Option, None, Some, slice_index_or, slice_set, replicate, refl, sym, ap, subst, arith, ◌^◌}
use Rattle.std.specs.Prelude.{option_map}
use Rattle.std.specs.Option.{option_map_or, option_to_list}
use Rattle.std.proofs.lemmas.Bool.{cases_lt}
use Rattle.std.proofs.lemmas.List.{append_assoc, get_or-replicate, get_or_past, length-append, length-replicate, length-set}
use Rattle.std.proofs.lemmas.List.FromFn.{get_or-map-range_with_len}
use Rattle.std.proofs.Math.ListN.{get_or-append}
use Rattle.std.proofs.Math.Seq.{get_or-append_seam}
use Rattle.jc_view.specs.ClassFile.{ClassFile, all_slots}
use Rattle.jc_view.specs.Lookups.{utf8_at}
use Rattle.jc_code.specs.inside.Fronts.{BeginsWith}
use Rattle.jc_code.proofs.appended.Fronts.{begins_through, begins_whole}
use Rattle.jc_classes.specs.inside.ClassTexts.{AreNumbered, KeptTexts, Tells, count_numbered}
use Rattle.jc_classes.specs.inside.ConstantTexts.{text_or_empty, texts_of}
use Rattle.jc_classes.specs.inside.FactsShown.{text_at}
use Rattle.jc_classes.proofs.texts.ConstantTexts.{length_texts_of, text_there, text_within}
use Rattle.jc_classes.proofs.texts.Entries.{shown_some}

-- ---- texts in front of others

pub text_stays : (a b : List (List ℕ)) (number : ℕ) → BeginsWith b a → number < length a → text_at b number ≡ text_at a number
text_stays a b number f l = ap (λ x. text_at x number) f.1 ∙ get_or-append a f.0 [] number l

pub index_within : (c : ClassFile) (index : ℕ) (text : List ℕ) → utf8_at c (record { 0 = index }) ≡ Some text → index < 1 + all_slots c.constants
index_within c index text h = text_within c (record { 0 = index }) text h

-- ---- how many have a number

count_within : (numbers : List (Option ℕ)) → count_numbered numbers ≤ length numbers
count_within [] = omega arith
count_within (None ∷ numbers) = omega (arith, count_within numbers)
count_within (Some n ∷ numbers) = omega (arith, count_within numbers)

-- where one has none there are fewer numbers than indexes
pub count_less : (numbers : List (Option ℕ)) (index : ℕ) → index < length numbers → slice_index_or numbers index None ≡ None → count_numbered numbers < length numbers
count_less [] index l e = absurd (omega (arith, l))
count_less (x ∷ numbers) zero l e = subst (λ y. count_numbered (y ∷ numbers) < suc (length numbers)) (sym e) (omega (arith, count_within numbers))
count_less (None ∷ numbers) (suc index) l e = omega (arith, count_within numbers)
count_less (Some n ∷ numbers) (suc index) l e = omega (arith, count_less numbers index (omega (arith, l)) e)

count_more : (numbers : List (Option ℕ)) (index number : ℕ) → index < length numbers → slice_index_or numbers index None ≡ None → count_numbered (slice_set numbers index (Some number)) ≡ suc (count_numbered numbers)
count_more [] index number l e = absurd (omega (arith, l))
count_more (x ∷ numbers) zero number l e = ap (λ y. suc (count_numbered (y ∷ numbers))) (sym e)
count_more (None ∷ numbers) (suc index) number l e = count_more numbers index number (omega (arith, l)) e
count_more (Some n ∷ numbers) (suc index) number l e = ap suc (count_more numbers index number (omega (arith, l)) e)

-- none has one
count_none : (numbers : List (Option ℕ)) → ((index : ℕ) → slice_index_or numbers index None ≡ None) → count_numbered numbers ≡ 0
count_none [] h = refl
count_none (x ∷ numbers) h = ap (λ y. count_numbered (y ∷ numbers)) (h 0) ∙ count_none numbers (λ index. h (suc index))

abbrev nothing : Option ℕ
nothing = None

none_there : (n index : ℕ) → slice_index_or (replicate n nothing) index nothing ≡ nothing
none_there n index = by (cases_lt index n)
  where
    by : (index < n) ⊎ (n ≤ index) → slice_index_or (replicate n nothing) index nothing ≡ nothing
    by (inl l) = get_or-replicate n index nothing nothing l
    by (inr l) = get_or_past (replicate n nothing) index nothing (subst (λ k. k ≤ index) (sym (length-replicate n nothing)) l)

pub none_numbered : (c : ClassFile) (n : ℕ) → n ≡ 1 + all_slots c.constants → n < 2 ^ 16 → AreNumbered c (replicate n None) ([] ∷ [])
none_numbered c n size few = record {
  size = length-replicate n None ∙ size;
  few = subst (λ k. k < 2 ^ 16) (sym (length-replicate n None)) few;
  count = ap suc (sym (count_none (replicate n None) (none_there n)));
  empty = refl;
  text = λ index number e. absurd (by number (sym (none_there n index) ∙ e));
}
  where
    by : (number : ℕ) → None ≡ Some number → ⊥
    by number e = cc

-- ---- one index after another

-- what stands in a list once an item is set
set_cases : (numbers : List (Option ℕ)) (index number other n : ℕ) → slice_index_or (slice_set numbers index (Some number)) other None ≡ Some n → (slice_index_or numbers other None ≡ Some n) ⊎ ((other ≡ index) × (Some n ≡ Some number))
set_cases [] index number other n e = inl e
set_cases (x ∷ numbers) zero number zero n e = inr (refl, sym e)
set_cases (x ∷ numbers) zero number (suc other) n e = inl e
set_cases (x ∷ numbers) (suc index) number zero n e = inl e
set_cases (x ∷ numbers) (suc index) number (suc other) n e = by (set_cases numbers index number other n e)
  where
    by : (slice_index_or numbers other None ≡ Some n) ⊎ ((other ≡ index) × (Some n ≡ Some number)) → (slice_index_or numbers other None ≡ Some n) ⊎ ((suc other ≡ suc index) × (Some n ≡ Some number))
    by (inl h) = inl h
    by (inr h) = inr (ap suc h.0, h.1)

text_absent : (c : ClassFile) (index : ℕ) → utf8_at c (record { 0 = index }) ≡ None → text_at (texts_of c) index ≡ []
unfolding texts_of
text_absent c index e = by (cases_lt index (1 + all_slots c.constants))
  where
    by : (index < 1 + all_slots c.constants) ⊎ (1 + all_slots c.constants ≤ index) → text_at (texts_of c) index ≡ []
    by (inl l) = get_or-map-range_with_len (text_or_empty c) 0 (1 + all_slots c.constants) index index [] l (omega arith) ∙ ap (λ o. option_map_or (λ t. t) o []) e
    by (inr l) = get_or_past (texts_of c) index [] (subst (λ n. n ≤ index) (sym (length_texts_of c)) l)

module _ (c : ClassFile) (numbers : List (Option ℕ)) (texts : List (List ℕ)) (h : AreNumbered c numbers texts) (index : ℕ) where
  pub told_none : utf8_at c (record { 0 = index }) ≡ None → Tells (record { class = c; texts = texts }) (record { class = c; texts = texts }) (λ ts. text_at ts 0 ≡ text_at (texts_of c) index)
  told_none e = record {
    class = refl;
    front = begins_whole texts;
    holds = λ ts f. text_stays texts ts 0 f (omega (arith, h.count)) ∙ h.empty ∙ sym (text_absent c index e);
  }

  pub told_known : (number : ℕ) → slice_index_or numbers index None ≡ Some number → Tells (record { class = c; texts = texts }) (record { class = c; texts = texts }) (λ ts. text_at ts number ≡ text_at (texts_of c) index)
  told_known number e = record {
    class = refl;
    front = begins_whole texts;
    holds = λ ts f. text_stays texts ts number f (h.text index number e).0 ∙ (h.text index number e).1;
  }

  module _ (text : List ℕ) (there : utf8_at c (record { 0 = index }) ≡ Some text) where
    pub told_new : Tells (record { class = c; texts = texts }) (record { class = c; texts = texts ++ text ∷ [] }) (λ ts. text_at ts (length texts) ≡ text_at (texts_of c) index)
    told_new = record {
      class = refl;
      front = (text ∷ [], refl);
      holds = λ ts f. text_stays (texts ++ text ∷ []) ts (length texts) f (omega (arith, length-append texts (text ∷ []))) ∙ get_or-append_seam texts text [] [] ∙ sym (text_there c (record { 0 = index }) text there);
    }

    pub one_numbered : index < length numbers → slice_index_or numbers index None ≡ None → AreNumbered c (slice_set numbers index (Some (length texts))) (texts ++ text ∷ [])
    one_numbered l e = record {
      size = length-set numbers index (Some (length texts)) ∙ h.size;
      few = subst (λ n. n < 2 ^ 16) (sym (length-set numbers index (Some (length texts)))) h.few;
      count = omega (arith, length-append texts (text ∷ []), h.count, count_more numbers index (length texts) l e);
      empty = get_or-append texts (text ∷ []) [] 0 (omega (arith, h.count)) ∙ h.empty;
      text = λ other n o. by other n (set_cases numbers index (length texts) other n o);
    }
      where
        by : (other n : ℕ) → (slice_index_or numbers other None ≡ Some n) ⊎ ((other ≡ index) × (Some n ≡ Some (length texts))) → (n < length (texts ++ text ∷ [])) × (text_at (texts ++ text ∷ []) n ≡ text_at (texts_of c) other)
        by other n (inl o) =
            let t = h.text other n o in
            (omega (arith, t.0, length-append texts (text ∷ [])), get_or-append texts (text ∷ []) [] n t.0 ∙ t.1)
        by other n (inr o) =
            let same : n ≡ length texts = ap (λ x. option_map_or (λ y. y) x 0) o.1 in (
              omega (arith, same, length-append texts (text ∷ [])),
              ap (text_at (texts ++ text ∷ [])) same ∙ get_or-append_seam texts text [] [] ∙ sym (text_there c (record { 0 = index }) text there) ∙ ap (text_at (texts_of c)) (sym o.0),
            )

-- ---- one thing after another

pub both : {a b d : KeptTexts} {P Q : List (List ℕ) → Type 0} → Tells a b P → Tells b d Q → Tells a d (λ ts. P ts × Q ts)
both {a} {b} {d} p q = record {
  class = q.class ∙ p.class;
  front = begins_through a.texts b.texts d.texts p.front q.front;
  holds = λ ts f. (p.holds ts (begins_through b.texts d.texts ts q.front f), q.holds ts f);
}

pub so : {a b : KeptTexts} {P Q : List (List ℕ) → Type 0} → Tells a b P → ((ts : List (List ℕ)) → P ts → Q ts) → Tells a b Q
so p g = record { class = p.class; front = p.front; holds = λ ts f. g ts (p.holds ts f) }

pub with_front : {a b : KeptTexts} {P : List (List ℕ) → Type 0} → Tells a b P → Tells a b (λ ts. P ts × BeginsWith ts b.texts)
with_front p = record { class = p.class; front = p.front; holds = λ ts f. (p.holds ts f, f) }

pub at_once : (a : KeptTexts) {P : List (List ℕ) → Type 0} → ((ts : List (List ℕ)) → P ts) → Tells a a P
at_once a g = record { class = refl; front = begins_whole a.texts; holds = λ ts f. g ts }

-- one more of a list, where there is one: before what is left, and behind what is done
module _ {X Y : Type 0} (shown : List (List ℕ) → X → Y) {a b d : KeptTexts} (made new : List X) (x y : Option X) (o : Option Y) (is : option_map (shown (texts_of a.class)) x ≡ o)
    (told : Tells b d (λ ts. option_map (shown ts) y ≡ option_map (shown (texts_of b.class)) x)) (n : new ≡ made ++ option_to_list y) where
  pub one_more_left : (left next all : List Y) → Tells a b (λ ts. map (shown ts) made ++ left ≡ all) → left ≡ option_to_list o ++ next → Tells a d (λ ts. map (shown ts) new ++ next ≡ all)
  one_more_left left next all p l = so (both p told) (λ ts h.
      ap (λ ys. ys ++ next) (shown_some (shown ts) new made y o n (h.1 ∙ ap (λ k. option_map (shown (texts_of k)) x) p.class ∙ is))
      ∙ append_assoc (map (shown ts) made) (option_to_list o) next ∙ ap (λ ys. map (shown ts) made ++ ys) (sym l) ∙ h.0)

  pub one_more_done : (done grown : List Y) → Tells a b (λ ts. map (shown ts) made ≡ done) → grown ≡ done ++ option_to_list o → Tells a d (λ ts. map (shown ts) new ≡ grown)
  one_more_done done grown p g = so (both p told) (λ ts h.
      shown_some (shown ts) new made y o n (h.1 ∙ ap (λ k. option_map (shown (texts_of k)) x) p.class ∙ is) ∙ ap (λ ys. ys ++ option_to_list o) h.0 ∙ sym g)
