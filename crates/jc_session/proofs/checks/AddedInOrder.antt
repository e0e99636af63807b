-- Files are added at the front of a list of paths, and then at the next path.
use Rattle.std.proofs.Common.{◌≡◌, ℕ, List, [], ◌∷◌, ◌++◌, Option, Some, None, Ok, Err, refl, sym, ap, subst, ◌∙◌}
use Rattle.std.specs.FinMap as map
use Rattle.jc_report.specs.Files.{Files}
use Rattle.jc_report.specs.Trees.{IsTree, Tree}
use Rattle.jc_session.specs.declared.tree_check.CheckError.{CheckError}
use Rattle.jc_session.specs.declared.tree_check.CheckError.TheVariants as errors
use Rattle.jc_input.specs.declared.edit.EditError.{EditError}
use Rattle.jc_input.specs.declared.source.SourceError.TheVariants as sources
use Rattle.jc_session.specs.Checks.{Added, All, Answer, GivesAnswers, Lacks, Refused, Unread, added, answered_add, judged_add, stops_at}
use Rattle.jc_input.specs.Changes.{Adds}
use Rattle.jc_input.specs.FileEdits.{after, judge}
use Rattle.jc_input.specs.Sources.{SourceAnswers, TakesAnswer}
use Rattle.jc_session.specs.inside.Adding.{AddsOne, ReadsTree, StopsAs}

-- ---- answers

-- an answer is given for each of the paths
abbrev pub GivesAll : Option SourceAnswers → (paths : List (List ℕ)) → List Answer → Option SourceAnswers → Type 0
GivesAll old [] [] new = new ≡ old
GivesAll old [] (answer ∷ answers) new = ⊥
GivesAll old (path ∷ paths) [] new = ⊥
GivesAll old (path ∷ paths) (answer ∷ answers) new = (mid : Option SourceAnswers) × TakesAnswer old path answer mid × GivesAll mid paths answers new

pub all_given : (old new : Option SourceAnswers) (paths : List (List ℕ)) (answers : List Answer) → GivesAll old paths answers new → GivesAnswers old paths answers new
all_given old new [] [] given = given
all_given old new [] (a ∷ answers) given = absurd given
all_given old new (p ∷ paths) [] given = absurd given
all_given old new (p ∷ paths) (a ∷ answers) given = (given.0, given.1, all_given given.0 new paths answers given.2)

module _ (mid new : Option SourceAnswers) (path : List ℕ) (answer : Answer) (takes : TakesAnswer mid path answer new) where
  first_taken : (old : Option SourceAnswers) → mid ≡ old → TakesAnswer old path answer new
  first_taken old e = subst (λ s. TakesAnswer s path answer new) e takes

  -- one more is given behind those that were
  pub one_more : (old : Option SourceAnswers) (front : List (List ℕ)) (answers : List Answer) → GivesAll old front answers mid → GivesAll old (front ++ path ∷ []) (answers ++ answer ∷ []) new
  one_more old [] [] given = (new, first_taken old given, refl)
  one_more old [] (a ∷ answers) given = absurd given
  one_more old (p ∷ front) [] given = absurd given
  one_more old (p ∷ front) (a ∷ answers) given = (given.0, given.1, one_more given.0 front answers given.2)

  -- and none for the paths behind it
  pub last_one : (old : Option SourceAnswers) (front rest : List (List ℕ)) (answers : List Answer) → GivesAll old front answers mid → GivesAnswers old (front ++ path ∷ rest) (answers ++ answer ∷ []) new
  last_one old [] rest [] given = (new, first_taken old given, refl)
  last_one old [] rest (a ∷ answers) given = absurd given
  last_one old (p ∷ front) rest [] given = absurd given
  last_one old (p ∷ front) rest (a ∷ answers) given = (given.0, given.1, last_one given.0 front rest answers given.2)

-- ---- files

-- where something stops the files are not all there
stop_is_not_all : (g : Files) (answers : List Answer) (stop : Added) → (stop ≡ All g → ⊥) → stops_at stop answers ≡ All g → ⊥
stop_is_not_all g [] stop differs all = differs all
stop_is_not_all g (a ∷ answers) stop differs all = cc

module _ (g : Files) (path : List ℕ) (answer : Answer) (rest : List (List ℕ)) where
  -- where all files at the front were added, the next path decides
  pub next_added : (old mid : Option SourceAnswers) (f : Files) (front : List (List ℕ)) (answers : List Answer) → GivesAll old front answers mid → added f front answers ≡ All g → added f (front ++ path ∷ rest) (answers ++ answer ∷ []) ≡ answered_add g path answer [] (λ h. added h rest [])
  next_added old mid f [] [] given all = let same : f ≡ g = cc in ap (λ x. answered_add x path answer [] (λ h. added h rest [])) same
  next_added old mid f [] (a ∷ answers) given all = absurd given
  next_added old mid f (p ∷ front) [] given all = absurd given
  next_added old mid f (p ∷ front) (Err sources.Unread ∷ answers) given all = absurd (stop_is_not_all g answers (Unread p) (λ h. cc) all)
  next_added old mid f (p ∷ front) (Err sources.NoMemory ∷ answers) given all = absurd (stop_is_not_all g answers Lacks (λ h. cc) all)
  next_added old mid f (p ∷ front) (Ok bytes ∷ answers) given all = judged (λ h done. next_added given.0 mid h front answers given.2 done) (judge f (Adds p bytes)) all
    where
      judged : ((h : Files) → added h front answers ≡ All g → added h (front ++ path ∷ rest) (answers ++ answer ∷ []) ≡ answered_add g path answer [] (λ k. added k rest []))
          → (o : Option EditError) → judged_add f p bytes o answers (λ h. added h front answers) ≡ All g → judged_add f p bytes o (answers ++ answer ∷ []) (λ h. added h (front ++ path ∷ rest) (answers ++ answer ∷ [])) ≡ answered_add g path answer [] (λ h. added h rest [])
      judged further None all = further (after f (Adds p bytes)) all
      judged further (Some e) all = absurd (stop_is_not_all g answers (Refused e p) (λ h. cc) all)

-- ---- a tree of the files at the front

-- what was read of a source, and the tree of it
pub record HasRead (old now : Option SourceAnswers) (front : List (List ℕ)) (tree : Tree) : Type 0 where
  pub answers : List Answer
  pub files : Files
  pub given : GivesAll old front answers now
  pub all : added map.empty front answers ≡ All files
  pub kept : IsTree files tree

pub read_start : (s : Option SourceAnswers) (tree : Tree) → IsTree map.empty tree → HasRead s s [] tree
read_start s tree kept = record { answers = []; files = map.empty; given = refl; all = refl; kept = kept }

pub read_more : (old now new : Option SourceAnswers) (front : List (List ℕ)) (path : List ℕ) (answer : Answer) (tree more : Tree) → (h : HasRead old now front tree)
    → TakesAnswer now path answer new → AddsOne h.files path answer (Ok more) → HasRead old new (front ++ path ∷ []) more
read_more old now new front path answer tree more h takes adds = record {
  answers = h.answers ++ answer ∷ [];
  files = adds.0;
  given = one_more now new path answer takes old front h.answers h.given;
  all = next_added h.files path answer [] old now map.empty front h.answers h.given h.all ∙ adds.1;
  kept = adds.2;
}

-- what stops the add of one file stops that of all
stops_judged : (f : Files) (path bytes : List ℕ) (o : Option EditError) (rest : List (List ℕ)) (e : CheckError) → StopsAs (judged_add f path bytes o [] All) e → StopsAs (judged_add f path bytes o [] (λ g. added g rest [])) e
stops_judged f path bytes (Some fault) rest e h = h
stops_judged f path bytes None rest (errors.Unread p) h = absurd cc
stops_judged f path bytes None rest (errors.Refused fault p) h = absurd cc
stops_judged f path bytes None rest errors.Write h = h
stops_judged f path bytes None [] errors.NoMemory h = h
stops_judged f path bytes None (p ∷ rest) errors.NoMemory h = h

stops : (f : Files) (path : List ℕ) (answer : Answer) (rest : List (List ℕ)) (e : CheckError) → StopsAs (answered_add f path answer [] All) e → StopsAs (answered_add f path answer [] (λ g. added g rest [])) e
stops f path (Ok bytes) rest e h = stops_judged f path bytes (judge f (Adds path bytes)) rest e h
stops f path (Err sources.Unread) rest e h = h
stops f path (Err sources.NoMemory) rest e h = h

-- where no file was read yet
pub none_read : (s : Option SourceAnswers) (paths : List (List ℕ)) → ReadsTree paths s s (Err errors.NoMemory)
none_read s [] = ([], refl, tt)
none_read s (path ∷ paths) = ([], refl, tt)

pub read_stops : (old now new : Option SourceAnswers) (front rest : List (List ℕ)) (path : List ℕ) (answer : Answer) (tree : Tree) (e : CheckError) → (h : HasRead old now front tree)
    → TakesAnswer now path answer new → AddsOne h.files path answer (Err e) → ReadsTree (front ++ path ∷ rest) old new (Err e)
read_stops old now new front rest path answer tree e h takes adds = (
  h.answers ++ answer ∷ [],
  last_one now new path answer takes old front rest h.answers h.given,
  subst (λ (x : Added). StopsAs x e) (sym (next_added h.files path answer rest old now map.empty front h.answers h.given h.all)) (stops h.files path answer rest e adds),
)

pub read_all : (old now : Option SourceAnswers) (paths : List (List ℕ)) (tree : Tree) → HasRead old now paths tree → ReadsTree paths old now (Ok tree)
read_all old now paths tree h = (h.answers, all_given old now paths h.answers h.given, (h.files, h.all, h.kept))
