-- One that comes, among what is made ready.
use Rattle.std.proofs.Common.{◌≡◌, ◌<◌, ◌+◌, ◌++◌, ℕ, arith, is_some, true, false, Bool, ◌&&◌, ◌||◌, List, [], ◌∷◌, length, Option, None, refl, sym, ap, ◌∙◌, Some, IfSome}
use Rattle.std.proofs.lemmas.List.{length-append, map-append}
use Rattle.std.specs.FinMap as map
use Rattle.std.specs.List.{Contains}
use Rattle.std.specs.Option.{option_copied, option_to_list}
use Rattle.std.specs.Bool.{◌==◌}
use Rattle.std.specs.Borrow.{Bor}
use Rattle.std.specs.declared.vec.Vec.{Vec}
use Rattle.std.specs.declared.alloc.Global.{Global}
use Rattle.std.proofs.lemmas.Bool.{false≢true}
use Rattle.jc_classes.specs.Names.{names_of}
use Rattle.jc_classes.specs.Names.{Name, same_name}
use Rattle.jc_classes.specs.Numbers.{name_at}
use Rattle.jc_classes.specs.Worlds.{World}
use Rattle.jc_classes.proofs.numbering.NumberLemmas.{name_last, name_left}
use Rattle.jc_link.specs.Graphs.{ClassGraph}
use Rattle.jc_link.specs.Meters.{counted}
use Rattle.jc_link.specs.Tables.{Places, world}
use Rattle.jc_link.specs.declared.meter.Meter.{Meter}
use Rattle.jc_linkage.specs.declared.class_entry.NewEntry.{NewEntry}
use Rattle.jc_linkage.specs.declared.class_entry.ClassEntry.{ClassEntry}
use Rattle.jc_linkage.specs.inside.Kept.{AllFresh, IsClassAt, KeptMap, Relation, fresh_at, fresh_names, held_in, names_by}
use Rattle.jc_linkage.specs.inside.Prepared.{HasAskedFor, IsPrepared, IsPreparedOver}
use Rattle.jc_linkage.specs.inside.Users.{is_name}
use Rattle.jc_classes.specs.NameLists.{has}
use Rattle.jc_linkage.specs.Affected.{NoRepeat}
use Rattle.jc_linkage.proofs.equations.Booleans.{or_none}
use Rattle.jc_linkage.proofs.equations.LinkTests.{all_linked}
use Rattle.jc_linkage.proofs.fresh.FreshLists.{all_fresh_append}
use Rattle.jc_linkage.proofs.fresh.Counts.{counted_add, counted_none}
use Rattle.jc_linkage.proofs.held.KeptMaps.{held_insert, held_at}

-- where there are no names and none comes, nothing is made
ready_none : (m : World) (kept : KeptMap) (meter : Meter) → IsPrepared m [] None kept kept [] meter meter
ready_none m kept meter = record {
  last = [];
  others = refl;
  newcomer = refl;
  parts = tt;
  at = λ d. refl;
  made = counted_none meter.made meter.made_fit;
}

-- the parts of the names, and that of the one that comes
pub ready_both : (m : World) (names : List Name) (comes : Option Name) (kept now : KeptMap) (fresh last : List NewEntry) (old mid new : Meter)
    → fresh_names fresh ≡ names → AllFresh m fresh → mid.made ≡ counted old.made (length names)
    → fresh_names last ≡ option_to_list comes → AllFresh m last → new.made ≡ counted mid.made (length (option_to_list comes))
    → ((d : Name) → map.get now d ≡ fresh_at last d (map.get kept d)) → IsPrepared m names comes kept now fresh old new
ready_both m names comes kept now fresh last old mid new others parts made newcomer last_parts more at = record {
  last = last;
  others = others;
  newcomer = newcomer;
  parts = all_fresh_append m fresh last parts last_parts;
  at = at;
  made =
      more ∙ ap (λ a. counted a (length (option_to_list comes))) made ∙ counted_add old.made (length names) (length (option_to_list comes))
      ∙ ap (counted old.made)
      (ap (λ z. length z + length (option_to_list comes)) (sym others) ∙ ap (λ z. length (fresh_names fresh) + length z) (sym newcomer)
      ∙ sym (ap length (map-append (λ (x : NewEntry). x.name.items) fresh last) ∙ length-append (fresh_names fresh) (fresh_names last)));
}

pub one_has : (o : Option Name) (d : Name) → has (option_to_list o) d ≡ is_name o d
one_has None d = refl
one_has (Some n) d = or_none (same_name d n)

-- where nothing is made, nothing is asked for
pub asked_none : (m : World) (classes : List Name) (meter : Meter) → classes ≡ [] → HasAskedFor m classes meter meter
asked_none m classes meter none = record {
  reached = [];
  are_reached = record {
    once = tt;
    sound = λ n e. absurd (false≢true e);
    complete = λ n r. absurd (omega (arith, r.1.1, ap length none));
  };
  asks = counted_none meter.asks meter.asks_fit;
}

-- where there are no names and none comes, nothing is made and nothing is asked for
pub none_over : (table : Places) (outside : List Name) (vs : List (Vec ℕ Global)) (o : Option (Bor (List ℕ))) (kept : KeptMap) (meter : Meter)
    → length vs ≡ 0 → is_some o ≡ false → IsPreparedOver table outside vs o kept kept [] meter meter
unfolding ready_none
none_over table outside [] None kept meter e f = record {
  ready = ready_none (world table outside) kept meter;
  asked = asked_none (world table outside) [] meter refl;
}
none_over table outside (v ∷ vs) o kept meter e f = absurd (omega (arith, e))
none_over table outside [] (Some x) kept meter e f = absurd (false≢true (sym f))

-- there is one
pub one_of_both : (names : List Name) (o : Option Name) → (names ≡ [] → o ≡ None → ⊥) → (d : Name) × Contains (names ++ option_to_list o) d
one_of_both (x ∷ names) o some = (x, (0, omega arith, refl))
one_of_both [] (Some n) some = (n, (0, omega arith, refl))
one_of_both [] None some = absurd (some refl refl)

-- as they are lent
pub some_comes : (o : Option (Bor (List ℕ))) → is_some o ≡ true → option_copied o ≡ None → ⊥
some_comes None e f = absurd (false≢true e)
some_comes (Some x) e f = absurd cc

pub no_names : (vs : List (Vec ℕ Global)) → names_of vs ≡ [] → false ≡ (length vs == 0) → ⊥
no_names [] e f = absurd (false≢true f)
no_names (x ∷ vs) e f = absurd cc

pub one_once : (o : Option Name) → NoRepeat (option_to_list o)
one_once None = tt
one_once (Some n) = (refl, tt)

-- ---- one that is put in

-- a class of which nothing was kept is put in, and linked
pub newcomer_linked : (r : Relation) (kept : KeptMap) (name : Name) (newcomer : ClassEntry) (f : Bool) (d n : Name) → map.get kept name ≡ None
    → ((held_in r kept d n || f) || (same_name d name && has (names_by r newcomer) n)) ≡ (held_in r (map.insert kept name newcomer) d n || f)
newcomer_linked r kept name newcomer f d n absent =
    all_linked (held_in r kept d n) f (same_name d name) (has (names_by r newcomer) n) (held_at r kept name None d n absent)
    ∙ ap (λ b. b || f) (sym (held_insert r kept name newcomer d n))

-- ---- the places of classes

-- the first classes of a graph
pub class_front : (xs ys : List Name) (g : ClassGraph) → g.classes ≡ xs ++ ys → (i : ℕ) → i < length xs → IsClassAt g i (name_at xs i)
class_front xs ys g is i l =
    let size = ap length is ∙ length-append xs ys in
    (omega (arith, l, size), ap (λ ns. name_at ns i) is ∙ name_left xs ys i l)

-- the class behind them
pub class_behind : (xs : List Name) (o : Option Name) (g : ClassGraph) → g.classes ≡ xs ++ option_to_list o → (i : ℕ) → length xs ≡ i → (n : Name) → o ≡ Some n → IsClassAt g i n
class_behind xs o g is i at n comes =
    let classes : g.classes ≡ xs ++ n ∷ [] = is ∙ ap (λ p. xs ++ option_to_list p) comes in
    let size = ap length classes ∙ length-append xs (n ∷ []) in
    (omega (arith, at, size), ap (λ ns. name_at ns i) classes ∙ name_last xs n i at)

-- nothing is kept of the class that comes
pub newcomer_absent : (newcomer : Option NewEntry) (comes : Option Name) (kept : KeptMap) → fresh_names (option_to_list newcomer) ≡ option_to_list comes
    → ((n : Name) → comes ≡ Some n → map.get kept n ≡ None) → IfSome newcomer (λ (x : NewEntry). map.get kept x.name.items ≡ None)
newcomer_absent None comes kept same absent = tt
newcomer_absent (Some x) None kept same absent = absurd cc
newcomer_absent (Some x) (Some n) kept same absent = let named : x.name.items ≡ n = cc in ap (map.get kept) named ∙ absent n refl
