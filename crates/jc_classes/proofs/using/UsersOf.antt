-- What uses each reference, by the first methods and the marks.
use Rattle.std.proofs.Common.{◌≡◌, ◌∙◌, ℕ, zero, suc, ◌+◌, ◌<◌, Bool, List, [], ◌∷◌, ◌++◌, length, map, take, Option, refl, ap, sym, subst, arith}
use Rattle.std.specs.List.{All}
use Rattle.std.proofs.Math.ListN.{get_or}
use Rattle.std.proofs.lemmas.List.{get_or-map, length-map, map_more}
use Rattle.jc_view.specs.ClassFile.{ClassFile, all_slots}
use Rattle.jc_classes.specs.Facts.{Reference}
use Rattle.jc_classes.specs.FactsOf.{references_in, users_in}
use Rattle.jc_classes.specs.UsedConstants.{used_constants}
use Rattle.jc_classes.specs.Users.{first_user, user_by, user_of}
use Rattle.jc_classes.specs.declared.facts.ReferenceEntry.{ReferenceEntry}
use Rattle.jc_classes.specs.declared.reference.ReferenceKind.TheVariants as kinds
use Rattle.jc_classes.specs.declared.used.User.{User}
use Rattle.jc_classes.specs.inside.FactsShown.{reference_shown}
use Rattle.jc_classes.specs.inside.FirstUsers.{AreFirst, first_at}
use Rattle.jc_classes.specs.inside.Using.{are_marks, mark_at}
use Rattle.jc_classes.proofs.using.Marking.{mark_there}

pub user_there : (c : ClassFile) (numbers : List (Option ℕ)) (marks : List Bool) (i : ℕ) → AreFirst c numbers → marks ≡ are_marks c (used_constants c) → i < 1 + all_slots c.constants
    → user_by (first_at numbers i) (mark_at marks i) ≡ user_of c i
user_there c numbers marks i first e l =
    ap (λ o. user_by o (mark_at marks i)) (first i l) ∙ ap (user_by (first_user c i)) (mark_there c (used_constants c) marks i e l)

abbrev pub entry_user : ClassFile → ReferenceEntry → User
entry_user c entry = user_of c entry.index

some_entry : ReferenceEntry
some_entry = record { index = 0; kind = kinds.Class; class = 0; name = 0; descriptor = 0 }

-- one more
pub next_user : (c : ClassFile) (numbers : List (Option ℕ)) (marks : List Bool) (entries : List ReferenceEntry) (n index : ℕ) (user : User) (old new : List User)
    → AreFirst c numbers → marks ≡ are_marks c (used_constants c) → All (λ (entry : ReferenceEntry). entry.index < 1 + all_slots c.constants) entries
    → n < length entries → ((d : ReferenceEntry) → index ≡ (get_or entries n d).index) → user ≡ user_by (first_at numbers index) (mark_at marks index)
    → old ≡ map (entry_user c) (take n entries) → new ≡ old ++ user ∷ [] → new ≡ map (entry_user c) (take (n + 1) entries)
next_user c numbers marks entries n index user old new first e within l is told so_far added =
    let d = some_entry in
    let at : index < 1 + all_slots c.constants = subst (λ k. k < 1 + all_slots c.constants) (sym (is d)) (within n d l) in
    let same : user ≡ entry_user c (get_or entries n d) = told ∙ user_there c numbers marks index first e at ∙ ap (user_of c) (is d) in
    added ∙ ap (λ users. users ++ user ∷ []) so_far
    ∙ ap (λ u. map (entry_user c) (take n entries) ++ u ∷ []) same
    ∙ sym (map_more (entry_user c) entries n d l)

-- an entry that is there, whatever stands for those that are not
pub same_index : (entries : List ReferenceEntry) (n : ℕ) (d e : ReferenceEntry) → n < length entries → (get_or entries n d).index ≡ (get_or entries n e).index
same_index [] n d e l = absurd (omega arith)
same_index (x ∷ entries) zero d e l = refl
same_index (x ∷ entries) (suc n) d e l = same_index entries n d e (omega (arith, l))

-- ---- of references that entries show

shown_users : (c : ClassFile) (texts : List (List ℕ)) (entries : List ReferenceEntry) → map (entry_user c) entries ≡ map (λ (r : Reference). user_of c r.index) (map (reference_shown texts) entries)
shown_users c texts [] = refl
shown_users c texts (x ∷ entries) = ap (λ users. entry_user c x ∷ users) (shown_users c texts entries)

pub users_shown : (c : ClassFile) (texts : List (List ℕ)) (entries : List ReferenceEntry) → map (reference_shown texts) entries ≡ references_in c → map (entry_user c) entries ≡ users_in c
unfolding users_in
users_shown c texts entries e = shown_users c texts entries ∙ ap (map (λ (r : Reference). user_of c r.index)) e

-- what holds of what each shows holds of each
pub all_shown : {A B : Type 0} (f : A → B) (P : B → Type 0) (xs : List A) (ys : List B) → map f xs ≡ ys → All P ys → All (λ x. P (f x)) xs
all_shown f P xs ys is all = λ k d l.
    let at = all k (f d) (subst (λ n. k < n) (sym (length-map xs f) ∙ ap length is) l) in
    subst P (ap (λ zs. get_or zs k (f d)) (sym is) ∙ get_or-map f xs k d (f d) l) at
