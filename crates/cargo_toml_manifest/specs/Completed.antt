-- All that completion says of a manifest where it succeeds.
use Rattle.std.specs.Prelude.{◌≡◌, false, IfSome, Option, Ok}
use Rattle.cargo_toml_discovery.specs.Names.{Name}
use Rattle.cargo_toml_discovery.specs.Told.{Told}
use Rattle.cargo_toml_package.specs.Inheriting.{IsFilled}
use Rattle.cargo_toml_manifest.specs.Choosing.{Handed, MayFind, RootsTold}
use Rattle.cargo_toml_manifest.specs.Completing.{GivenBy, IsLasting, Meets, complete}
use Rattle.cargo_toml_manifest.specs.Inheriting.{needs}
use Rattle.cargo_toml_manifest.specs.Manifests.{held}
use Rattle.cargo_toml_manifest.specs.declared.manifest.Manifest.{Manifest}

-- by a workspace that is handed in, if any, by what is stated of roots and of folders, and by the
-- roots that may be found where none is stated
module _ {M : Type 0} (old : Manifest M) (handed : Option Handed) (roots : RootsTold)
    (found : MayFind) (told : Name → Told) where
  -- all that completion says of its success: the definition gives it, nothing is left to the
  -- workspace, and completing again gives it again
  pub record IsCompleted (new : Manifest M) : Type 0 where
    -- the definition gives it, where all that is asked for is told
    pub outcome : Meets held (complete (held old) handed roots told) (Ok new)
    -- the definition gives it by some answers in place of what isn't told
    pub given : GivenBy (held old) handed roots found told (held new)
    -- nothing is left to the workspace
    pub needs_nothing : needs (held new) ≡ false
    -- each field of the package that a workspace may give is known
    pub filled : IfSome new.«package» IsFilled
    -- completing it again gives it again
    pub again : IsLasting (held old) handed (held new)
