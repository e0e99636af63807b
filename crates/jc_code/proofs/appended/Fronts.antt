-- A list that is appended to begins with what it was.
use Rattle.std.proofs.Common.{◌≡◌, ◌++◌, List, [], ◌∷◌, ◌∙◌, ap, sym, append-nil, append_assoc}
use Rattle.jc_code.specs.inside.Fronts.{BeginsWith}

pub begins_whole : {A : Type 0} (list : List A) → BeginsWith list list
begins_whole list = ([], sym (append-nil list))

pub begins_longer : {A : Type 0} (front list longer extra : List A) → BeginsWith list front → longer ≡ list ++ extra → BeginsWith longer front
begins_longer front list longer extra begins is =
    (begins.0 ++ extra, is ∙ ap (λ l. l ++ extra) begins.1 ∙ append_assoc front begins.0 extra)

pub begins_same : {A : Type 0} (front list same : List A) → BeginsWith list front → same ≡ list → BeginsWith same front
begins_same front list same begins is = (begins.0, is ∙ begins.1)

pub begins_through : {A : Type 0} (front middle list : List A) → BeginsWith middle front → BeginsWith list middle → BeginsWith list front
begins_through front middle list begins more = begins_longer front middle list more.0 begins more.1

-- one step of a loop: what is appended is what the first item that is left has
pub added : {A B : Type 0} (of : List A → List B) (old new here whole : List B) (item : A) (left items : List A) → items ≡ item ∷ left
    → of (item ∷ left) ≡ here ++ of left → new ≡ old ++ here → old ++ of items ≡ whole → new ++ of left ≡ whole
added of old new here whole item left items first one more before =
    ap (λ l. l ++ of left) more
    ∙ append_assoc old here (of left)
    ∙ ap (λ l. old ++ l) (sym one)
    ∙ ap (λ l. old ++ of l) (sym first)
    ∙ before
