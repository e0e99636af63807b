-- Equations of the tests whether a class is linked to a name.
use Rattle.std.proofs.Common.{◌≡◌, Bool, true, false, not, ◌&&◌, ◌||◌, cond, refl, sym, ap, ◌∙◌}
use Rattle.std.proofs.lemmas.Bool.{false≢true}
use Rattle.jc_index.specs.Indexes.{Between}
use Rattle.jc_linkage.proofs.equations.Booleans.{or_left, or_assoc, or_none, and_yes}

-- ---- links that are added

-- perhaps more
pub between_more : (a f added new : Bool) → new ≡ (a || f) → (f ≡ true → added ≡ true) → Between a added new
between_more a f added new e g = (λ h. e ∙ or_left a f h, λ h. by a f (sym e ∙ h) g)
  where
    by : (a f : Bool) → (a || f) ≡ true → (f ≡ true → added ≡ true) → (a || added) ≡ true
    by true f h g = refl
    by false f h g = g h

-- some for certain, and then perhaps more
pub between_then : (a f x added mid new : Bool) → mid ≡ (a || f) → (f ≡ true → added ≡ true) → (x ≡ true → added ≡ true) → Between mid x new → Between a added new
between_then a f x added mid new e g k b = (λ h. b.0 (e ∙ or_left a f h), λ h. by a f mid x e (b.1 h) g k)
  where
    by : (a f mid x : Bool) → mid ≡ (a || f) → (mid || x) ≡ true → (f ≡ true → added ≡ true) → (x ≡ true → added ≡ true) → (a || added) ≡ true
    by true f mid x e h g k = refl
    by false f true x e h g k = g (sym e)
    by false f false x e h g k = k h

pub between_fewer : (a x y new : Bool) → (x ≡ true → y ≡ true) → Between a x new → Between a y new
between_fewer a x y new g b = (b.0, λ h. by a (b.1 h))
  where
    by : (a : Bool) → (a || x) ≡ true → (a || y) ≡ true
    by true e = refl
    by false e = g e

-- l, it is linked; k, it is kept; o, it is kept of the one class
pub linked_anyway : (l s h k o : Bool) → (s ≡ true → k ≡ o) → (k ≡ true → l ≡ true) → (l || (s && (h && not o))) ≡ (l || (s && h))
linked_anyway true s h k o g f = refl
linked_anyway false false h k o g f = refl
linked_anyway false true false k o g f = refl
linked_anyway false true true k false g f = refl
linked_anyway false true true k true g f = absurd (false≢true (f (g refl)))

-- what is added there is added without looking
pub added_anyway : (s h o : Bool) → (s && (h && not o)) ≡ true → (s && h) ≡ true
added_anyway true true o e = refl
added_anyway true false o e = absurd (false≢true e)
added_anyway false h o e = absurd (false≢true e)

-- ---- links that are perhaps added: a, it was kept; f, it is fresh; x, it is of the one that comes

pub between_first : (l a f g x m : Bool) → l ≡ a → f ≡ g → Between l f m → Between a (g || x) m
between_first l a f g x m e h b = (
  λ k. b.0 (e ∙ k),
  λ k. sym (or_assoc a g x) ∙ or_left (a || g) x (ap (λ z. z || g) (sym e) ∙ ap (λ z. l || z) (sym h) ∙ b.1 k),
)

pub between_next : (mid a f g x new : Bool) → mid ≡ (a || f) → f ≡ g → Between mid x new → Between a (g || x) new
between_next mid a f g x new e h b = (
  λ k. b.0 (e ∙ or_left a f k),
  λ k. sym (or_assoc a g x) ∙ ap (λ z. (a || z) || x) (sym h) ∙ ap (λ z. z || x) (sym e) ∙ b.1 k,
)

pub between_last : (new mid a f g x : Bool) → new ≡ (mid || x) → mid ≡ (a || f) → f ≡ g → Between a (g || x) new
between_last new mid a f g x n e h = (
  λ k. n ∙ or_left mid x (e ∙ or_left a f k),
  λ k. sym (or_assoc a g x) ∙ ap (λ z. (a || z) || x) (sym h) ∙ ap (λ z. z || x) (sym e) ∙ sym n ∙ k,
)

-- ---- links that are undone

-- k, it is kept; o, it is kept of the one class
pub taken_out : (a s h k o : Bool) → (s ≡ true → k ≡ o) → (a && not (s && (h && not o))) ≡ (a && not ((s && h) && not k))
taken_out false s h k o g = refl
taken_out true false h k o g = refl
taken_out true true h k o g = ap (λ x. not (h && not x)) (sym (g refl))

pub all_out : (a s h k : Bool) → (s ≡ true → k ≡ false) → (a && not (s && h)) ≡ (a && not ((s && h) && not k))
all_out false s h k g = refl
all_out true false h k g = refl
all_out true true false k g = refl
all_out true true true true g = absurd (false≢true (sym (g refl)))
all_out true true true false g = refl

pub same_out : (a s k o : Bool) → (s ≡ true → k ≡ o) → (a && not (s && o)) ≡ (a && not (s && k))
same_out false s k o g = refl
same_out true false k o g = refl
same_out true true k o g = ap not (sym (g refl))

pub none_out : (a s k : Bool) → (s ≡ true → k ≡ false) → a ≡ (a && not (s && k))
none_out false s k g = refl
none_out true false k g = refl
none_out true true k g = ap not (sym (g refl))

pub changed_out : (a s k o w : Bool) → (s ≡ true → k ≡ o) → (a && not (s && (o && not w))) ≡ (a && not (s && (k && not w)))
changed_out a s k o w g = same_out a s (k && not w) (o && not w) (λ e. ap (λ b. b && not w) (g e))

pub more_undone : (a f x k : Bool) → ((a && not (f && not k)) && not (x && not k)) ≡ (a && not ((f || x) && not k))
more_undone false f x k = refl
more_undone true false x k = refl
more_undone true true true true = refl
more_undone true true false true = refl
more_undone true true x false = refl

-- k, it was kept; f, it was perhaps added; s and h, it was perhaps added at the name of which nothing was kept
pub undone_some : (l k f m : Bool) → l ≡ k → Between l f m → (m && not (f && not k)) ≡ k
undone_some l true true true e b = refl
undone_some l false true true e b = refl
undone_some l k false true e b = sym (sym e ∙ sym (or_none l) ∙ b.1 refl)
undone_some l true f false e b = absurd (false≢true (b.0 e))
undone_some l false f false e b = refl

pub undone_all : (k f s h m : Bool) → (s ≡ true → k ≡ false) → Between k (f || (s && h)) m → ((m && not (s && h)) && not (f && not k)) ≡ k
undone_all true f true h m g b = absurd (false≢true (sym (g refl)))
undone_all true true false h true g b = refl
undone_all true false false h true g b = refl
undone_all true f false h false g b = absurd (false≢true (b.0 refl))
undone_all false f s h false g b = refl
undone_all false true true true true g b = refl
undone_all false true true false true g b = refl
undone_all false true false h true g b = refl
undone_all false false true true true g b = refl
undone_all false false true false true g b = absurd (false≢true (b.1 refl))
undone_all false false false h true g b = absurd (false≢true (b.1 refl))

-- ---- a class that is changed over, that comes, or that goes

-- one class is changed over: s, it is that one; k, it was kept; f, it is among the others; o, its old names; w, its new ones
pub change_over : (s k f o w : Bool) → (s ≡ true → k ≡ o) → (s ≡ true → f ≡ false) → ((k || (f || (s && w))) && not (s && (o && not w))) ≡ (cond s w k || f)
change_over true k f o w g h = by k f o w (g refl) (h refl)
  where
    by : (k f o w : Bool) → k ≡ o → f ≡ false → ((k || (f || w)) && not (o && not w)) ≡ (w || f)
    by k true o w e z = absurd (false≢true (sym z))
    by true false true true e z = refl
    by true false true false e z = refl
    by false false false true e z = refl
    by false false false false e z = refl
    by true false false w e z = absurd (false≢true (sym e))
    by false false true w e z = absurd (false≢true e)
change_over false true f o w g h = refl
change_over false false true o w g h = refl
change_over false false false o w g h = refl

-- k, it was kept; f, it is fresh; s, it is the one that comes, with h
pub all_linked : (k f s h : Bool) → (s ≡ true → k ≡ false) → ((k || f) || (s && h)) ≡ (cond s h k || f)
all_linked true f true h g = absurd (false≢true (sym (g refl)))
all_linked false true true true g = refl
all_linked false true true false g = refl
all_linked false false true true g = refl
all_linked false false true false g = refl
all_linked true f false h g = refl
all_linked false true false h g = refl
all_linked false false false h g = refl

-- k, it was kept; f, it is fresh; g, the class goes
pub gone_over : (k f g : Bool) → (g ≡ true → f ≡ false) → ((k || f) && not (g && k)) ≡ (cond g false k || f)
gone_over true true true h = absurd (false≢true (sym (h refl)))
gone_over true false true h = refl
gone_over false true true h = absurd (false≢true (sym (h refl)))
gone_over false false true h = refl
gone_over k f false h = and_yes (k || f)
