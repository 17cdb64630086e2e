-- A member that is read, completed from its workspace, written, and read again.
use Rattle.std.specs.Prelude.{ℕ, List, Some}
use Rattle.toml.specs.{View.view, declared.value.Value.Value}
use Rattle.cargo_toml.specs.Choosing.{MayFind, RootsTold}
use Rattle.cargo_toml.specs.{Completed.IsCompleted, Manifest.Manifest, Manifests.manifest_meaning}
use Rattle.cargo_toml.specs.{Sharing.shared_of, ToldFolders.Told}
use Rattle.cargo_toml_bench.specs.{Spelled.Spells, Versioned.IsPrinted}

-- the text is printed of the member that the bytes spell, completed by the workspace that the
-- root's bytes spell
module _ (bytes root path : List ℕ) (roots : RootsTold) (found : MayFind) (told : List ℕ → Told)
    (text : List ℕ) where
  pub record IsCompletedText : Type 0 where
    pub member : Manifest Value
    pub spelled : Spells bytes (manifest_meaning view member)
    pub workspace : Manifest Value
    pub root_spelled : Spells root (manifest_meaning view workspace)
    pub whole : Manifest Value
    pub completed : IsCompleted member (Some (shared_of workspace.workspace, path)) roots found told
        whole
    pub printed : IsPrinted (manifest_meaning view whole) text
