-- Working memory for look-up.
use Rattle.std.specs.Prelude.{◌≡◌, Bool, IfSome, List, Option, length}
use Rattle.jc_numbered.specs.declared.classes.Classes.{Classes}
use Rattle.jc_numbered.specs.declared.loads.Load.{Load}
use Rattle.jc_numbered.specs.inside.Above.{Knows}
use Rattle.jc_numbered.specs.inside.Shown.{indexed_of}
use Rattle.jc_resolve.specs.declared.workspace.Workspace.{Workspace}
use Rattle.jc_resolve.specs.inside.Loaded.{IsLoaded}

-- the working memory fits these classes
pub record IsRoom (c : Classes) (r : Workspace) : Type 0 where
  pub above : Knows (length c.standing.now) (indexed_of c) r.above
  pub covered : length r.covered.flags ≡ length c.standing.now

-- how the classes load, and working memory that fits them, if there is any
pub record IsHeld (c : Classes) (loads : List Load) (circular : List Bool) (kept : Option Workspace) : Type 0 where
  pub loaded : IsLoaded (length c.standing.now) (indexed_of c) loads circular
  pub room : IfSome kept (IsRoom c)
