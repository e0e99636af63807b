-- Members that were passed in search of those that repeat an earlier one.
use Rattle.std.proofs.Common.{◌≡◌, ◌∙◌, ℕ, ◌+◌, Bool, false, cond, List, [], ◌∷◌, ◌++◌, map, Option, Some, refl, ap, sym, subst}
use Rattle.std.specs.List.{list_any, AllZip}
use Rattle.std.specs.Option.{option_map_or}
use Rattle.indexmap.specs.IndexSet.{insert_key}
use Rattle.jc_file.specs.declared.fault.Fault.{Fault}
use Rattle.jc_file.specs.declared.fault.FormatRule.{FormatRule}
use Rattle.jc_file.specs.declared.text_numbers.TextNumbers.{TextNumbers}
use Rattle.jc_view.specs.ClassFile.{ClassFile}
use Rattle.jc_view.specs.Places.{PlacedMember}
use Rattle.jc_view.specs.Lent.{MembersLeft, LentMember, GivesMember}
use Rattle.jc_file.specs.Faults.{key_of, same_key, repeated, fault_at}
use Rattle.jc_file.specs.inside.Repeated.{repeats, keys_left}
use Rattle.jc_file.specs.inside.TextNumbers.{AreNumbers, KeepsNumbers, IsNumbered, same_numbers, IsNumberedKey}
use Rattle.jc_file.proofs.keys.KeysLeft.{keys_next, keys_left-members}
use Rattle.jc_file.proofs.keys.RepeatedKeys.{repeats_next, repeats_all}
use Rattle.jc_file.proofs.keys.NumberedKeys.{Key, Numbers, zip_kept, with_key, any_with_key, was_noted, numbered_with_key}

-- n members of a class were passed, whose keys have these numbers, and others are left: the faults so far, and those of what is left, are all
pub record HavePassed (c : ClassFile) (rule : FormatRule) (all : List Fault) (t : TextNumbers) (numbers : List Numbers) (n : ℕ) (left : MembersLeft) (faults : List Fault) : Type 0 where
  pub class : left.class ≡ c
  pub texts : AreNumbers c t
  pub keys : List Key
  pub numbered : AllZip (IsNumbered t) keys numbers
  pub owed : faults ++ map (fault_at rule) (repeats same_key (λ q. list_any (same_key q) keys) n (keys_left left)) ≡ all

pub passed_none : (members : MembersLeft) (rule : FormatRule) (t : TextNumbers) (numbers : List Numbers) (n : ℕ) (left : MembersLeft) (faults : List Fault) → AreNumbers members.class t → numbers ≡ [] → n ≡ 0 → left ≡ members → HavePassed members.class rule (faults ++ map (fault_at rule) (repeated members.class (map (λ m. m.member) members.left))) t numbers n left faults
passed_none members rule t numbers n left faults texts none zero all =
    record {
      class = ap (λ (m : MembersLeft). m.class) all;
      texts = texts;
      keys = [];
      numbered = subst (AllZip (IsNumbered t) []) (sym none) tt;
      owed =
          ap (λ ns. faults ++ map (fault_at rule) ns)
          (ap (λ k. repeats same_key (λ q. false) k (keys_left left)) zero
          ∙ ap (λ m. repeats same_key (λ q. false) 0 (keys_left m)) all
          ∙ ap (repeats same_key (λ q. false) 0) (keys_left-members members)
          ∙ repeats_all same_key (key_of members.class) (λ q. false) (map (λ (m : PlacedMember). m.member) members.left) (λ q. refl));
    }

-- one more
pub passed_more : (c : ClassFile) (rule : FormatRule) (all : List Fault) (t more : TextNumbers) (numbers after : List Numbers) (n next place : ℕ) (was : Bool) (key : Option Numbers) (left others : MembersLeft) (item : LentMember) (faults found : List Fault)
    → HavePassed c rule all t numbers n left faults → GivesMember left (Some item) others → place ≡ n → next ≡ n + 1
    → AreNumbers item.class more → KeepsNumbers t more → IsNumberedKey item.class more item.member.member key
    → was ≡ option_map_or (λ k. list_any (same_numbers k) numbers) key false → after ≡ option_map_or (insert_key same_numbers numbers) key numbers
    → found ≡ faults ++ cond was (fault_at rule place ∷ []) []
    → HavePassed c rule all more after next others found
passed_more c rule all t more numbers after n next place was key left others item faults found passed gives at goes sound keeps has_key decides noted adds =
    let class : item.class ≡ c = gives.1.1 ∙ passed.class in
    let text_key = key_of item.class item.member.member in
    let numbered : AllZip (IsNumbered more) passed.keys numbers = zip_kept (IsNumbered t) (IsNumbered more) (λ q a h. (keeps q.0 a.0 h.0, keeps q.1 a.1 h.1)) passed.keys numbers passed.numbered in
    record {
      class = gives.0 ∙ passed.class;
      texts = subst (λ (d : ClassFile). AreNumbers d more) class sound;
      keys = with_key passed.keys text_key;
      numbered = subst (AllZip (IsNumbered more) (with_key passed.keys text_key)) (sym noted) (numbered_with_key item.class more sound item.member.member passed.keys numbers numbered key has_key);
      owed =
          repeats_next rule same_key (λ q. list_any (same_key q) passed.keys) (λ q. list_any (same_key q) (with_key passed.keys text_key)) n next place was text_key (keys_left others) (keys_left left) faults found all
          (keys_next left others item gives) at goes (decides ∙ was_noted item.class more sound item.member.member passed.keys numbers numbered key has_key) (any_with_key passed.keys text_key) adds passed.owed;
    }
