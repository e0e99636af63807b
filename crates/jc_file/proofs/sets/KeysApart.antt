-- Keys that were passed in search of one that repeats an earlier one.
use Rattle.std.proofs.Common.{◌≡◌, ◌∙◌, ℕ, ◌+◌, Bool, false, ◌||◌, cond, List, [], ◌∷◌, ◌++◌, length, map, Some, None, refl, ap, sym}
use Rattle.std.specs.Borrow.{Bor}
use Rattle.std.specs.List.{list_any}
use Rattle.std.specs.Option.{option_map_or}
use Rattle.std.proofs.lemmas.List.{length-append}
use Rattle.jc_view.specs.Lookups.{utf8_at}
use Rattle.jc_view.specs.Places.{PlacedMember}
use Rattle.jc_view.specs.Lent.{MembersLeft, LentMember, GivesMember}
use Rattle.jc_file.specs.Faults.{key_of, same_key, repeated}
use Rattle.jc_file.specs.inside.Repeated.{key_now, keys_left, repeats}
use Rattle.jc_file.proofs.keys.KeysLeft.{keys_next, keys_left-members}
use Rattle.jc_file.proofs.keys.RepeatedKeys.{any-append, or_false, repeats_alike, repeats_all}

abbrev pub LentKey : Type 0
LentKey = Bor (List ℕ) × Bor (List ℕ)

-- one of the keys is equal
abbrev pub seen : List LentKey → List ℕ × List ℕ → Bool
seen keys q = list_any (λ key. same_key q (key_now key)) keys

-- those that are left repeat none, so none repeats one
abbrev pub DecideAll : MembersLeft → List LentKey → MembersLeft → Type 0
DecideAll members keys left = repeats same_key (seen keys) (length keys) (keys_left left) ≡ [] → repeated members.class (map (λ (m : PlacedMember). m.member) members.left) ≡ []

pub none_passed : (members : MembersLeft) (keys : List LentKey) (left : MembersLeft) → keys ≡ [] → left ≡ members → DecideAll members keys left
none_passed members keys left none all others =
    sym (repeats_all same_key (key_of members.class) (λ q. false) (map (λ (m : PlacedMember). m.member) members.left) (λ q. refl))
    ∙ ap (repeats same_key (λ q. false) 0) (sym (keys_left-members members))
    ∙ ap (λ l. repeats same_key (λ q. false) 0 (keys_left l)) (sym all)
    ∙ ap (λ (ks : List LentKey). repeats same_key (seen ks) (length ks) (keys_left left)) (sym none)
    ∙ others

seen_more : (keys : List LentKey) (key : LentKey) (q : List ℕ × List ℕ) → seen (keys ++ key ∷ []) q ≡ (seen keys q || same_key q (key_now key))
seen_more keys key q = any-append (λ k. same_key q (key_now k)) keys (key ∷ []) ∙ ap (λ b. seen keys q || b) (or_false (same_key q (key_now key)))

-- the key of an item
pub key_is : (item : LentMember) (name descriptor : Bor (List ℕ)) → utf8_at item.class item.member.member.name ≡ Some name.now → utf8_at item.class item.member.member.descriptor ≡ Some descriptor.now → key_of item.class item.member.member ≡ Some (name.now, descriptor.now)
key_is item name descriptor named described =
    ap (λ n. option_map_or (λ name. option_map_or (λ d. Some (name, d)) (utf8_at item.class item.member.member.descriptor) None) n None) named
    ∙ ap (λ d. option_map_or (λ d. Some (name.now, d)) d None) described

-- one more
pub one_passed : (members left others : MembersLeft) (item : LentMember) (key : LentKey) (keys after : List LentKey) → GivesMember left (Some item) others
    → key_of item.class item.member.member ≡ Some (key_now key) → seen keys (key_now key) ≡ false → after ≡ keys ++ key ∷ [] → DecideAll members keys left → DecideAll members after others
one_passed members left others item key keys after gives is new adds decides none =
    let is_left : keys_left left ≡ Some (key_now key) ∷ keys_left others = keys_next left others item gives ∙ ap (λ k. k ∷ keys_left others) is in
    decides (
    ap (repeats same_key (seen keys) (length keys)) is_left
    ∙ ap (λ b. cond b (length keys ∷ []) [] ++ repeats same_key (λ q. seen keys q || same_key q (key_now key)) (length keys + 1) (keys_left others)) new
    ∙ repeats_alike same_key (λ q. seen keys q || same_key q (key_now key)) (seen (keys ++ key ∷ [])) (λ q. sym (seen_more keys key q)) (length keys + 1) (keys_left others)
    ∙ ap (λ n. repeats same_key (seen (keys ++ key ∷ [])) n (keys_left others)) (sym (length-append keys (key ∷ [])))
    ∙ ap (λ (ks : List LentKey). repeats same_key (seen ks) (length ks) (keys_left others)) (sym adds)
    ∙ none
    )
