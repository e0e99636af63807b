-- Texts that are handed over one after another.
use Rattle.std.proofs.Common.{◌≡◌, ◌≤◌, ◌++◌, ℕ, true, false, List, [], Option, Result, Ok, Err, OnOk, OnErr, refl, sym, ap, ◌∙◌, subst, arith, append_assoc, ◌⊎◌, inl, inr}
use Rattle.std.proofs.lemmas.Bool.{cases_Bool}
use Rattle.std.proofs.lemmas.List.{append-nil}
use Rattle.std.proofs.KnownBytes.{Appends-nil, Appends-trans, Appends-kept, Keeps-refl, Keeps-trans}
use Rattle.std.specs.Io.KnownBytes.{Appends, Keeps}
use Rattle.jc_base.proofs.WrittenFronts.{front_of_first, front_of_second}
use Rattle.jc_base.specs.Device.{CountsFault, MoreFaults, WritesFront, more}
use Rattle.jc_text.specs.declared.text_writer.TextWriter.{TextWriter}
use Rattle.jc_text.specs.Sends.{IsFresh, Sent, Adds, Fails, Drops, Sends}

-- ---- one text behind another

regrouped : (waits first second front still : List ℕ) → waits ++ first ≡ front ++ still → waits ++ (first ++ second) ≡ front ++ (still ++ second)
regrouped waits first second front still p = sym (append_assoc waits first second) ∙ ap (λ l. l ++ second) p ∙ append_assoc front still second

-- what the second text leaves behind
waits_on : (waits first second front still moved left : List ℕ) → waits ++ first ≡ front ++ still → still ++ second ≡ moved ++ left
    → waits ++ (first ++ second) ≡ (front ++ moved) ++ left
waits_on waits first second front still moved left p q = regrouped waits first second front still p ∙ ap (λ l. front ++ l) q ∙ sym (append_assoc front moved left)

-- a proper beginning behind what the first text wrote
front_behind : (old mid new : Option (List ℕ)) (waits first second front still : List ℕ) → waits ++ first ≡ front ++ still → Appends old mid front
    → WritesFront mid new (still ++ second) → WritesFront old new (waits ++ (first ++ second))
front_behind old mid new waits first second front still p wrote part =
    subst (WritesFront old new) (sym (regrouped waits first second front still p)) (front_of_second old mid new front (still ++ second) wrote part)

-- a proper beginning, and then no more
front_kept : (old mid new : Option (List ℕ)) (waits first second : List ℕ) → WritesFront old mid (waits ++ first) → Keeps mid new
    → WritesFront old new (waits ++ (first ++ second))
front_kept old mid new waits first second part kept =
    let (n, within, wrote) = front_of_first old mid (waits ++ first) second part in
    subst (WritesFront old new) (append_assoc waits first second) (n, within, Appends-kept old mid new _ wrote kept)

outcome_then : {W : Type 0} {written : W → Option (List ℕ)} {failures : W → ℕ} {a b c : TextWriter W} {first second : List ℕ}
    → Sent written failures a b first → Sent written failures b c second → Sent written failures a c (first ++ second)
outcome_then {W} {written} {failures} {a} {b} {c} {first} {second} (Adds e f front p wrote count) (Adds g h moved q wrote_more count_more) =
    Adds e h (front ++ moved) (waits_on a.pending first second front b.pending moved c.pending p q) (Appends-trans _ _ _ front moved wrote wrote_more) (count_more ∙ count)
outcome_then {W} {written} {failures} {a} {b} {c} {first} {second} (Adds e f front p wrote count) (Fails g h n within part fault) =
    let all = front_behind _ _ _ a.pending first second front b.pending p wrote (n, within, part) in
    Fails e h all.0 all.1 all.2 (fault ∙ ap (λ k. more k 1) count)
outcome_then {W} {written} {failures} {a} {b} {c} {first} {second} (Fails e f n within part fault) (Drops g h kept same) =
    let all = front_kept _ _ _ a.pending first second (n, within, part) kept in
    Fails e h all.0 all.1 all.2 (same ∙ fault)
outcome_then (Drops e f kept same) (Drops g h kept_more same_more) = Drops e h (Keeps-trans _ _ _ kept kept_more) (same_more ∙ same)
outcome_then (Adds e f front p wrote count) (Drops g h kept same) = absurd cc
outcome_then (Fails e f n within part fault) (Adds g h moved q wrote_more count_more) = absurd cc
outcome_then (Fails e f n within part fault) (Fails g h m within_more part_more fault_more) = absurd cc
outcome_then (Drops e f kept same) (Adds g h moved q wrote_more count_more) = absurd cc
outcome_then (Drops e f kept same) (Fails g h m within_more part_more fault_more) = absurd cc

infixl 10 ◌⟫◌
pub ◌⟫◌ : {W : Type 0} {written : W → Option (List ℕ)} {failures : W → ℕ} {a b c : TextWriter W} {first second : List ℕ}
    → Sends written failures a b first → Sends written failures b c second → Sends written failures a c (first ++ second)
p ⟫ q = record {
  same_reference = q.same_reference ∙ p.same_reference;
  outcome = outcome_then p.outcome q.outcome;
}

outcome_nothing : {W : Type 0} (written : W → Option (List ℕ)) (failures : W → ℕ) (a : TextWriter W) → (a.failed ≡ true) ⊎ (a.failed ≡ false) → Sent written failures a a []
outcome_nothing written failures a (inl e) = Drops e e (Keeps-refl _) refl
outcome_nothing written failures a (inr e) = Adds e e [] (append-nil a.pending) (Appends-nil _) refl

pub sends_nothing : {W : Type 0} (written : W → Option (List ℕ)) (failures : W → ℕ) (a : TextWriter W) → Sends written failures a a []
sends_nothing written failures a = record {
  same_reference = refl;
  outcome = outcome_nothing written failures a (cases_Bool a.failed);
}

-- a text that is handed over once a write has failed
pub sends_dropped : {W : Type 0} {written : W → Option (List ℕ)} {failures : W → ℕ} {a : TextWriter W} {text : List ℕ} → a.failed ≡ true
    → Sends written failures a a text
sends_dropped e = record { same_reference = refl; outcome = Drops e e (Keeps-refl _) refl }

pub sends_equal : {W : Type 0} {written : W → Option (List ℕ)} {failures : W → ℕ} {a b : TextWriter W} {first second : List ℕ} → first ≡ second
    → Sends written failures a b first → Sends written failures a b second
sends_equal {written = written} {failures = failures} {a = a} {b = b} same first_sent = subst (Sends written failures a b) same first_sent

-- ---- a text item by item

-- all of the text was handed over but what is left
pub record HasSent {W : Type 0} (written : W → Option (List ℕ)) (failures : W → ℕ) (start now : TextWriter W) (text left : List ℕ) : Type 0 where
  pub done : List ℕ
  pub sends : Sends written failures start now done
  pub split : text ≡ done ++ left

pub none_sent : {W : Type 0} (written : W → Option (List ℕ)) (failures : W → ℕ) (start : TextWriter W) (text : List ℕ) → HasSent written failures start start text text
none_sent written failures start text = record {
  done = [];
  sends = sends_nothing written failures start;
  split = refl;
}

-- a further part
pub part_sent : {W : Type 0} {written : W → Option (List ℕ)} {failures : W → ℕ} {start now new : TextWriter W} {text left part rest : List ℕ}
    → HasSent written failures start now text left → left ≡ part ++ rest → Sends written failures now new part → HasSent written failures start new text rest
part_sent {part = part} {rest = rest} so_far is further = record {
  done = so_far.done ++ part;
  sends = so_far.sends ⟫ further;
  split = so_far.split ∙ ap (λ l. so_far.done ++ l) is ∙ sym (append_assoc so_far.done part rest);
}

-- with nothing left
pub all_sent : {W : Type 0} {written : W → Option (List ℕ)} {failures : W → ℕ} {start now : TextWriter W} {text left : List ℕ}
    → HasSent written failures start now text left → left ≡ [] → Sends written failures start now text
all_sent {written = written} {failures = failures} {start = start} {now = now} so_far none =
    subst (Sends written failures start now) (sym (so_far.split ∙ ap (λ l. so_far.done ++ l) none ∙ append-nil so_far.done)) so_far.sends

-- ---- what the output has in the end

sent_whole : {W : Type 0} {written : W → Option (List ℕ)} {failures : W → ℕ} {start end : TextWriter W} {text : List ℕ} → start.pending ≡ [] → end.pending ≡ [] → end.failed ≡ false
    → Sent written failures start end text → Appends (written start.out.now) (written end.out.now) text × (failures end.out.now ≡ failures start.out.now)
sent_whole {written = written} {start = start} {end = end} {text = text} from to works (Adds e f front p wrote count) =
    let same : front ≡ text = sym (append-nil front) ∙ ap (λ l. front ++ l) (sym to) ∙ sym p ∙ ap (λ l. l ++ text) from in
    (subst (Appends (written start.out.now) (written end.out.now)) same wrote, count)
sent_whole from to works (Fails e f n within part fault) = absurd cc
sent_whole from to works (Drops e f kept same) = absurd cc

pub sent : {W : Type 0} {written : W → Option (List ℕ)} {failures : W → ℕ} {start end : TextWriter W} {text : List ℕ}
    → IsFresh start → Sends written failures start end text → IsFresh end → Appends (written start.out.now) (written end.out.now) text × (failures end.out.now ≡ failures start.out.now)
sent from whole to = sent_whole from.empty to.empty to.working whole.outcome

sent_front : {W : Type 0} {written : W → Option (List ℕ)} {failures : W → ℕ} {start end : TextWriter W} {text : List ℕ} → start.pending ≡ [] → start.failed ≡ false → end.failed ≡ true
    → Sent written failures start end text
    → WritesFront (written start.out.now) (written end.out.now) text × MoreFaults (failures start.out.now) (failures end.out.now) × (failures start.out.now ≤ failures end.out.now)
sent_front from works failed (Adds e f front p wrote count) = absurd cc
sent_front {written = written} {start = start} {end = end} {text = text} from works failed (Fails e f n within part fault) =
    (subst (WritesFront (written start.out.now) (written end.out.now)) (ap (λ l. l ++ text) from) (n, within, part), fault, omega (arith, fault))
sent_front from works failed (Drops e f kept same) = absurd cc

pub not_sent : {W : Type 0} {written : W → Option (List ℕ)} {failures : W → ℕ} {start end : TextWriter W} {text : List ℕ}
    → IsFresh start → Sends written failures start end text → end.failed ≡ true
    → WritesFront (written start.out.now) (written end.out.now) text × MoreFaults (failures start.out.now) (failures end.out.now) × (failures start.out.now ≤ failures end.out.now)
not_sent from part failed = sent_front from.empty from.working failed part.outcome

-- the same by what `finish` answered
pub finished : {W T E : Type 0} {written : W → Option (List ℕ)} {failures : W → ℕ} {start end : TextWriter W} {text : List ℕ} (r : Result T E)
    → IsFresh start → Sends written failures start end text → OnOk r (IsFresh end) → OnErr r (end.failed ≡ true)
    → OnOk r (Appends (written start.out.now) (written end.out.now) text) × OnErr r (WritesFront (written start.out.now) (written end.out.now) text)
    × CountsFault r (failures start.out.now) (failures end.out.now)
finished (Ok x) from whole to failed = let all = sent from whole to in (all.0, tt, all.1)
finished (Err e) from part to failed = let all = not_sent from part failed in (tt, all.0, (all.1, all.2))
