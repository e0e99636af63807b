-- Sets of links, and the effects of calls on the links.
use Rattle.std.specs.Prelude.{◌≡◌, Bool, ◌&&◌, ◌||◌, not, List, Option}
use Rattle.jc_classes.specs.NameLists.{has}
use Rattle.jc_classes.specs.Names.{Name, same_name}
use Rattle.jc_index.specs.Indexes.{Between}
use Rattle.jc_linkage.specs.declared.class_entry.NewEntry.{NewEntry}
use Rattle.jc_linkage.specs.declared.class_entry.ClassEntry.{ClassEntry}
use Rattle.jc_linkage.specs.declared.dependants.Dependants.{Dependants}
use Rattle.jc_linkage.specs.inside.Kept.{KeptMap, Relation, fresh_has, held_in, linked, names_by}
use Rattle.jc_linkage.specs.inside.Users.{is_name}

-- a set of links: whether there is a link between a name and a class
abbrev pub LinkSet : Type 0
LinkSet = Relation → (name class : Name) → Bool

-- ---- sets

-- the links of the class to each name of its entry
abbrev pub links_of : (class : Name) → ClassEntry → LinkSet
links_of class kept r n d = same_name d class && has (names_by r kept) n

-- the links of the class to each name of the entry `kept` that the entry `other` lacks
abbrev pub links_but : (class : Name) → (kept other : ClassEntry) → LinkSet
links_but class kept other r n d = same_name d class && (has (names_by r kept) n && not (has (names_by r other) n))

-- the links of the class to each name of its entry in the map
abbrev pub links_held : (class : Name) → KeptMap → LinkSet
links_held class kept r n d = same_name d class && held_in r kept d n

-- the links of the class to each name of its entry in the map that its new entry lacks
abbrev pub links_lost : (class : Name) → KeptMap → ClassEntry → LinkSet
links_lost class kept now r n d = same_name d class && (held_in r kept d n && not (has (names_by r now) n))

-- the links of the removed class to each name of its entry in the map
abbrev pub links_gone : (gone : Option Name) → KeptMap → LinkSet
links_gone gone kept r n d = is_name gone d && held_in r kept d n

-- the links of all entries in the map
abbrev pub all_held : KeptMap → LinkSet
all_held kept r n d = held_in r kept d n

-- the links of all new entries
abbrev pub all_fresh : List NewEntry → LinkSet
all_fresh fresh r n d = fresh_has r fresh d n

abbrev pub together : (these those : LinkSet) → LinkSet
together these those r n d = these r n d || those r n d

-- the links of the entries in the map, and of the new entries
abbrev pub held_and_fresh : KeptMap → List NewEntry → LinkSet
held_and_fresh kept fresh r n d = held_in r kept d n || fresh_has r fresh d n

abbrev pub without : (these those : LinkSet) → LinkSet
without these those r n d = these r n d && not (those r n d)

-- ---- the links

abbrev pub AreLinks : LinkSet → Dependants → Type 0
AreLinks these dependants = (r : Relation) (n d : Name) → linked r dependants n d ≡ these r n d

-- the links are those of the entries in the map, and perhaps some of `these`
abbrev pub AreLinkedAndSome : KeptMap → LinkSet → Dependants → Type 0
AreLinkedAndSome kept these dependants = (r : Relation) (n d : Name) → Between (held_in r kept d n) (these r n d) (linked r dependants n d)

-- `these` links are added, and nothing else changes
abbrev pub Adds : LinkSet → (old new : Dependants) → Type 0
Adds these old new = (r : Relation) (n d : Name) → linked r new n d ≡ (linked r old n d || these r n d)

-- some of `these` links are added, and nothing else changes
abbrev pub AddsSome : LinkSet → (old new : Dependants) → Type 0
AddsSome these old new = (r : Relation) (n d : Name) → Between (linked r old n d) (these r n d) (linked r new n d)

-- `these` links are removed, and nothing else changes
abbrev pub TakesOut : LinkSet → (old new : Dependants) → Type 0
TakesOut these old new = (r : Relation) (n d : Name) → linked r new n d ≡ (linked r old n d && not (these r n d))
