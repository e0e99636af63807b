-- Keys that repeat an earlier one, gone through one after the other.
use Rattle.std.proofs.Common.{◌≡◌, ◌∙◌, ℕ, ◌+◌, Bool, true, false, ◌||◌, cond, List, [], ◌∷◌, ◌++◌, length, map, take, Option, Some, None, refl, ap, sym, append_assoc}
use Rattle.std.specs.Prelude.{slice_get}
use Rattle.std.specs.List.{list_any}
use Rattle.std.specs.Option.{option_map_or}
use Rattle.std.proofs.lemmas.List.{map-append, length-append}
use Rattle.jc_base.proofs.Common.{map_if}
use Rattle.jc_file.specs.declared.fault.Fault.{Fault}
use Rattle.jc_file.specs.declared.fault.FormatRule.{FormatRule}
use Rattle.jc_file.specs.Faults.{passing, fault_at}
use Rattle.jc_file.specs.inside.Repeated.{repeats}

or_assoc : (a b c : Bool) → (a || b) || c ≡ (a || (b || c))
or_assoc true b c = refl
or_assoc false b c = refl

pub any-append : {X : Type 0} (test : X → Bool) (xs ys : List X) → list_any test (xs ++ ys) ≡ (list_any test xs || list_any test ys)
any-append test [] ys = refl
any-append test (x ∷ xs) ys = ap (λ b. test x || b) (any-append test xs ys) ∙ sym (or_assoc (test x) (list_any test xs) (list_any test ys))

seen_alike : {K : Type 0} (f g : K → Bool) → ((k : K) → f k ≡ g k) → (key : Option K) → option_map_or f key false ≡ option_map_or g key false
seen_alike f g alike None = refl
seen_alike f g alike (Some k) = alike k

-- what was seen counts by its answers
pub repeats_alike : {K : Type 0} (same : K → K → Bool) (f g : K → Bool) → ((k : K) → f k ≡ g k) → (n : ℕ) (keys : List (Option K)) → repeats same f n keys ≡ repeats same g n keys
repeats_alike same f g alike n [] = refl
repeats_alike same f g alike n (key ∷ keys) =
    ap (λ b. cond b (n ∷ []) [] ++ repeats same (λ q. f q || option_map_or (same q) key false) (n + 1) keys) (seen_alike f g alike key)
    ∙ ap (λ ns. cond (option_map_or g key false) (n ∷ []) [] ++ ns)
    (repeats_alike same (λ q. f q || option_map_or (same q) key false) (λ q. g q || option_map_or (same q) key false) (λ q. ap (λ b. b || option_map_or (same q) key false) (alike q)) (n + 1) keys)

-- the faults so far and those of what is left, one key on
repeats_step : {K : Type 0} (rule : FormatRule) (same : K → K → Bool) (seen : K → Bool) (n : ℕ) (key : Option K) (keys : List (Option K)) (before after all : List Fault) → after ≡ before ++ cond (option_map_or seen key false) (fault_at rule n ∷ []) [] → before ++ map (fault_at rule) (repeats same seen n (key ∷ keys)) ≡ all → after ++ map (fault_at rule) (repeats same (λ q. seen q || option_map_or (same q) key false) (n + 1) keys) ≡ all
repeats_step rule same seen n key keys before after all e so_far =
    let was = option_map_or seen key false in
    let others = repeats same (λ q. seen q || option_map_or (same q) key false) (n + 1) keys in
    ap (λ r. r ++ map (fault_at rule) others) e
    ∙ append_assoc before (cond was (fault_at rule n ∷ []) []) (map (fault_at rule) others)
    ∙ ap (λ r. before ++ (r ++ map (fault_at rule) others)) (sym (map_if (fault_at rule) was n))
    ∙ ap (λ r. before ++ r) (sym (map-append (fault_at rule) (cond was (n ∷ []) []) others))
    ∙ so_far

-- the same where each part is known by an equation, as at a loop over `enumerate`
pub repeats_next : {K : Type 0} (rule : FormatRule) (same : K → K → Bool) (seen seen_next : K → Bool) (n next place : ℕ) (was : Bool) (key : Option K) (keys left : List (Option K)) (before after all : List Fault) → left ≡ key ∷ keys → place ≡ n → next ≡ n + 1 → was ≡ option_map_or seen key false → ((q : K) → seen_next q ≡ (seen q || option_map_or (same q) key false)) → after ≡ before ++ cond was (fault_at rule place ∷ []) [] → before ++ map (fault_at rule) (repeats same seen n left) ≡ all → after ++ map (fault_at rule) (repeats same seen_next next keys) ≡ all
repeats_next rule same seen seen_next n next place was key keys left before after all is_left at goes decides sees adds so_far =
    let added : after ≡ before ++ cond (option_map_or seen key false) (fault_at rule n ∷ []) [] = adds ∙ ap (λ b. before ++ cond b (fault_at rule place ∷ []) []) decides ∙ ap (λ k. before ++ cond (option_map_or seen key false) (fault_at rule k ∷ []) []) at in
    let known : before ++ map (fault_at rule) (repeats same seen n (key ∷ keys)) ≡ all = ap (λ ks. before ++ map (fault_at rule) (repeats same seen n ks)) (sym is_left) ∙ so_far in
    ap (λ k. after ++ map (fault_at rule) (repeats same seen_next k keys)) goes
    ∙ ap (λ ns. after ++ map (fault_at rule) ns) (repeats_alike same seen_next (λ q. seen q || option_map_or (same q) key false) sees (n + 1) keys)
    ∙ repeats_step rule same seen n key keys before after all added known

-- ---- the whole

if_first : (b : Bool) (n : ℕ) (ns : List ℕ) → cond b (n ∷ ns) ns ≡ cond b (n ∷ []) [] ++ ns
if_first true n ns = refl
if_first false n ns = refl

take_front : {X : Type 0} (xs ys : List X) → take (length xs) (xs ++ ys) ≡ xs
take_front [] [] = refl
take_front [] (y ∷ ys) = refl
take_front (x ∷ xs) ys = ap (λ r. x ∷ r) (take_front xs ys)

get_behind : {X : Type 0} (xs : List X) (y : X) (ys : List X) → slice_get (xs ++ y ∷ ys) (length xs) ≡ Some y
get_behind [] y ys = refl
get_behind (x ∷ xs) y ys = get_behind xs y ys

-- an item before has the key
abbrev pub has : {X K : Type 0} → (K → K → Bool) → (X → Option K) → List X → K → Bool
has same key xs k = list_any (λ x. option_map_or (same k) (key x) false) xs

-- the number's item has the key of an earlier one
abbrev pub is_repeated : {X K : Type 0} → (K → K → Bool) → (X → Option K) → List X → ℕ → Bool
is_repeated same key xs n = option_map_or (λ x. option_map_or (has same key (take n xs)) (key x) false) (slice_get xs n) false

is_repeated_behind : {X K : Type 0} (same : K → K → Bool) (key : X → Option K) (front : List X) (x : X) (xs : List X) → is_repeated same key (front ++ x ∷ xs) (length front) ≡ option_map_or (has same key front) (key x) false
is_repeated_behind same key front x xs =
    ap (λ o. option_map_or (λ y. option_map_or (has same key (take (length front) (front ++ x ∷ xs))) (key y) false) o false) (get_behind front x xs)
    ∙ ap (λ f. option_map_or (has same key f) (key x) false) (take_front front (x ∷ xs))

pub or_false : (b : Bool) → (b || false) ≡ b
or_false true = refl
or_false false = refl

has_more : {X K : Type 0} (same : K → K → Bool) (key : X → Option K) (front : List X) (x : X) (k : K) → (has same key front k || option_map_or (same k) (key x) false) ≡ has same key (front ++ x ∷ []) k
has_more same key front x k =
    ap (λ b. has same key front k || b) (sym (or_false (option_map_or (same k) (key x) false)))
    ∙ sym (any-append (λ y. option_map_or (same k) (key y) false) front (x ∷ []))

length_more : {X : Type 0} (xs : List X) (x : X) → length (xs ++ x ∷ []) ≡ length xs + 1
length_more xs x = length-append xs (x ∷ [])

repeats_behind : {X K : Type 0} (same : K → K → Bool) (key : X → Option K) (front xs : List X) → repeats same (has same key front) (length front) (map key xs) ≡ passing (is_repeated same key (front ++ xs)) (length front) (length xs)
repeats_behind same key front [] = refl
repeats_behind same key front (x ∷ xs) =
    let more = front ++ x ∷ [] in
    let test = is_repeated same key (front ++ x ∷ xs) in
    let others : repeats same (λ q. has same key front q || option_map_or (same q) (key x) false) (length front + 1) (map key xs) ≡ passing test (length front + 1) (length xs) =
    repeats_alike same (λ q. has same key front q || option_map_or (same q) (key x) false) (has same key more) (has_more same key front x) (length front + 1) (map key xs)
    ∙ ap (λ n. repeats same (has same key more) n (map key xs)) (sym (length_more front x))
    ∙ repeats_behind same key more xs
    ∙ ap (λ ys. passing (is_repeated same key ys) (length more) (length xs)) (append_assoc front (x ∷ []) xs)
    ∙ ap (λ n. passing test n (length xs)) (length_more front x) in
    ap (λ ns. cond (option_map_or (has same key front) (key x) false) (length front ∷ []) [] ++ ns) others
    ∙ ap (λ b. cond b (length front ∷ []) [] ++ passing test (length front + 1) (length xs)) (sym (is_repeated_behind same key front x xs))
    ∙ sym (if_first (test (length front)) (length front) (passing test (length front + 1) (length xs)))

-- at the start, where nothing was seen
pub repeats_all : {X K : Type 0} (same : K → K → Bool) (key : X → Option K) (seen : K → Bool) (xs : List X) → ((k : K) → seen k ≡ false) → repeats same seen 0 (map key xs) ≡ passing (is_repeated same key xs) 0 (length xs)
repeats_all same key seen xs nothing = repeats_alike same seen (has same key []) nothing 0 (map key xs) ∙ repeats_behind same key [] xs
