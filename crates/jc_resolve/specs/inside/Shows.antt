-- What an entry says of a reference with this key, for any classes.
use Rattle.std.specs.Prelude.{ℕ, ◌≡◌}
use Rattle.jc_classes.specs.Facts.{Key, Reference}
use Rattle.jc_classes.specs.Lent.{member_lent}
use Rattle.jc_classes.specs.Resolution.Answer.{ToMember}
use Rattle.jc_numbered.specs.declared.classes.FoundMember.{FoundMember}
use Rattle.jc_numbered.specs.inside.Indexed.{Indexed, indexed_name}
use Rattle.jc_resolve.specs.declared.entry.Entry.{Entry}
use Rattle.jc_resolve.specs.inside.Entries.{IsKeyed, entry_shown}

-- the entry says that the reference finds this member
abbrev pub ShowsHit : Key → FoundMember → Entry ℕ → Type 0
ShowsHit k hit e = (x : Indexed) (r : Reference) → r.key ≡ k → IsKeyed r.key (member_lent hit.member)
    → entry_shown (indexed_name x) r e ≡ ToMember (indexed_name x hit.node) (member_lent hit.member)
