-- More names make no difference to those that were asked for.
use Rattle.std.proofs.Common.{◌∙◌, ℕ, List, arith, ap, sym}
use Rattle.jc_classes.specs.Names.{Name}
use Rattle.jc_classes.specs.Numbers.{Grows}
use Rattle.jc_classes.specs.Worlds.{Stands, World, supertypes_of}
use Rattle.jc_classes.proofs.numbering.NumberLemmas.{numbers_same}
use Rattle.std.proofs.lemmas.List.Elements.{Contains-get_or}
use Rattle.jc_link.specs.inside.Gathering.{IsAsked, supertypes_at}

pub asked_more : (m : World) (ns ns2 added : List Name) (st : List Stands) (rs : List (List ℕ)) → IsAsked m ns st rs → Grows ns ns2 added → IsAsked m ns2 st rs
asked_more m ns ns2 added st rs g grows =
    let longer = grows.longer in
    record {
      once = grows.once;
      size = g.size;
      standing = λ i k. let q = g.standing i k in (omega (arith, q.0, longer), q.1 ∙ ap m (sym (grows.same i q.0)));
      within = λ a b c. let r = g.within a b c in omega (arith, r, longer);
      above = λ i k.
          let q = g.standing i k in
          numbers_same ns ns2 (supertypes_at rs i) longer grows.same (λ j e k2. g.within i _ (Contains-get_or (supertypes_at rs i) j e k2))
          ∙ g.above i k ∙ ap (λ n. supertypes_of (m n)) (sym (grows.same i q.0));
    }
