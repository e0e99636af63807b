-- The numbers of texts that were told are those of texts that are there.
use Rattle.std.proofs.Common.{◌≡◌, ◌∙◌, ℕ, suc, ◌-◌, ◌<◌, ◌≤◌, List, [], ◌∷◌, ◌++◌, length, map, Option, Some, None, replicate, slice_index_or, refl, sym, ap, subst, arith, ⊎_elim}
use Rattle.std.specs.List.{All, flat_map}
use Rattle.std.specs.Option.{option_to_list}
use Rattle.std.proofs.lemmas.Bool.{cases_lt}
use Rattle.std.proofs.lemmas.List.{get_or-append_right, get_or-map, get_or-replicate, get_or_past, length-append, length-map}
use Rattle.jc_code.specs.inside.Fronts.{BeginsWith}
use Rattle.jc_code.proofs.appended.Fronts.{begins_whole}
use Rattle.jc_classes.specs.Facts.{Member}
use Rattle.jc_classes.specs.Names.{Name}
use Rattle.jc_classes.specs.MemberOrder.{IsOrder}
use Rattle.jc_classes.specs.declared.facts.MemberEntry.{MemberEntry}
use Rattle.jc_classes.specs.inside.FactsShown.{member_shown, text_at}
use Rattle.jc_classes.specs.inside.Ranks.{AreBelow}
use Rattle.jc_classes.proofs.texts.AskedTexts.{text_stays}

empty_is_not : (text : List ℕ) → [] ≡ text → 1 ∷ [] ≡ text → ⊥
empty_is_not text e f = cc

-- else another text could get the number
pub number_below : (texts : List (List ℕ)) (number : ℕ) (text : List ℕ) → ((ts : List (List ℕ)) → BeginsWith ts texts → text_at ts number ≡ text) → number < length texts
number_below texts number text h = ⊎_elim
    (λ l. l)
    (λ l.
    let other : List ℕ = 1 ∷ [] in
    let more = replicate (suc number) other in
    let past = get_or-append_right texts more (length texts) number [] refl l ∙ get_or-replicate (suc number) (number - length texts) other [] (omega arith) in
    absurd (empty_is_not text (sym (get_or_past texts number [] l) ∙ h texts (begins_whole texts)) (sym past ∙ h (texts ++ more) (more, refl))))
    (cases_lt number (length texts))

abbrev no_member : Member
no_member = record { name = []; descriptor = []; flags = 0 }

pub members_below : (texts : List (List ℕ)) (entries : List MemberEntry) (members : List Member) → ((ts : List (List ℕ)) → BeginsWith ts texts → map (member_shown ts) entries ≡ members) → AreBelow (length texts) entries
members_below texts entries members h k d l =
    let at = λ (ts : List (List ℕ)) (f : BeginsWith ts texts). sym (get_or-map (member_shown ts) entries k d no_member l) ∙ ap (λ (ms : List Member). slice_index_or ms k no_member) (h ts f) in (
      number_below texts (slice_index_or entries k d).name (slice_index_or members k no_member).name (λ ts f. ap (λ (m : Member). m.name) (at ts f)),
      number_below texts (slice_index_or entries k d).descriptor (slice_index_or members k no_member).descriptor (λ ts f. ap (λ (m : Member). m.descriptor) (at ts f)),
    )

pub names_below : (texts : List (List ℕ)) (numbers : List ℕ) (names : List Name) → ((ts : List (List ℕ)) → BeginsWith ts texts → map (text_at ts) numbers ≡ names) → All (λ n. n < length texts) numbers
names_below texts numbers names h k d l =
    number_below texts (slice_index_or numbers k d) (slice_index_or names k [])
    (λ ts f. sym (get_or-map (text_at ts) numbers k d [] l) ∙ ap (λ (ns : List Name). slice_index_or ns k []) (h ts f))

-- texts behind them change no name
pub names_stay : (texts all : List (List ℕ)) → BeginsWith all texts → (numbers : List ℕ) → All (λ n. n < length texts) numbers → map (text_at all) numbers ≡ map (text_at texts) numbers
names_stay texts all f [] h = refl
names_stay texts all f (n ∷ numbers) h = λ i. text_stays texts all n f (h 0 0 (omega arith)) i ∷ names_stay texts all f numbers (λ k d l. h (suc k) d (omega (arith, l))) i

one_at_most : {X : Type 0} (o : Option X) → length (option_to_list o) ≤ 1
one_at_most None = omega arith
one_at_most (Some x) = omega arith

found_few : {X Y : Type 0} (f : X → Option Y) (xs : List X) → length (flat_map (λ x. option_to_list (f x)) xs) ≤ length xs
found_few f [] = omega arith
found_few f (x ∷ xs) = omega (arith, length-append (option_to_list (f x)) (flat_map (λ y. option_to_list (f y)) xs), one_at_most (f x), found_few f xs)

-- no more than what they are made of
pub shown_few : {X : Type 0} (texts : List (List ℕ)) (entries : List MemberEntry) (f : X → Option Member) (xs : List X) → map (member_shown texts) entries ≡ flat_map (λ x. option_to_list (f x)) xs → length entries ≤ length xs
shown_few texts entries f xs e = omega (arith, length-map entries (member_shown texts), ap length e, found_few f xs)

-- the order of members that were lent is theirs
pub order_of : (texts : List (List ℕ)) (members entries : List MemberEntry) (order : List ℕ) → members ≡ entries → IsOrder (map (member_shown texts) members) order → IsOrder (map (member_shown texts) entries) order
order_of texts members entries order same h = subst (λ (ms : List MemberEntry). IsOrder (map (member_shown texts) ms) order) same h
