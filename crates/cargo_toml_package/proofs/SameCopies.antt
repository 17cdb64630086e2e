-- A copy of a dependency's detail holds the same.
use Rattle.cargo_toml_package.proofs.Cited.{Data, DependencyDetail, Global, List, String, Value, detail_meaning, option_same, requirement_meaning, requirement_same, string_bytes, view, zip_same, ℕ, ◌≡◌}
use Rattle.cargo_toml_package.specs.contracts.dependency.DependencyDetailClone.TheImpl as detail

pub pair_same : (x y : String Global × Value) → (string_bytes y.0 ≡ string_bytes x.0) × (view y.1 ≡ view x.1) → ◌≡◌ {A = List ℕ × Data} (string_bytes y.0, view y.1) (string_bytes x.0, view x.1)
pair_same x y h = let a = h.0 in let b = h.1 in cc

pub detail_same : (x y : DependencyDetail) → detail.ghosts.is_clone x y → detail_meaning y ≡ detail_meaning x
detail_same x y (a, (b, (c, (d, (e, (f, (g, (h, (i, (j, (optional, (default_features, (k, is_inherited))))))))))))) =
    let version = option_same requirement_meaning _ requirement_same x.version y.version a in
    let name = option_same string_bytes _ (λ _ _ s. s) x.«package» y.«package» b in
    let registry = option_same string_bytes _ (λ _ _ s. s) x.registry y.registry c in
    let registry_index = option_same string_bytes _ (λ _ _ s. s) x.registry_index y.registry_index d in
    let path = option_same string_bytes _ (λ _ _ s. s) x.path y.path e in
    let git = option_same string_bytes _ (λ _ _ s. s) x.git y.git f in
    let branch = option_same string_bytes _ (λ _ _ s. s) x.branch y.branch g in
    let tag = option_same string_bytes _ (λ _ _ s. s) x.tag y.tag h in
    let rev = option_same string_bytes _ (λ _ _ s. s) x.rev y.rev i in
    let features = zip_same string_bytes _ (λ _ _ s. s) x.features.items y.features.items j.0 in
    let unstable = zip_same (λ (m : String Global × Value). (string_bytes m.0, view m.1)) _ pair_same x.unstable.entries y.unstable.entries k in
    cc
