use Rattle.cargo_toml_tools.proofs.Cited.{[], ◌∙◌, ◌≡◌, ap, ap₂, dependency_tables, DependencyTable, Finding, folder_of, folder_refusal, index_data, line_data, List, manifest_meaning, ManifestMeaning, map, naming_refusal, None, NoPackage, Option, option_map, option_map_or, option_or, package_meaning, package_refusal, PackageMeaning, Refusal, refusal_of, Some, sym, table_of, Text, TomlMembers, Wanted, wanted_of, written}
use Rattle.cargo_toml_tools.proofs.index.index_entry.Goals as goal

-- what is said of the package and of its tables is said of the manifest
of_package : {M : Type 0} (w : Wanted) (findings : List Finding) (text : Text) (m : ManifestMeaning M) (p : PackageMeaning M) (d : TomlMembers) (ts : List DependencyTable)
    → d ≡ written text → m.«package» ≡ Some p → ts ≡ dependency_tables d m
    → (refusal_of w findings text m ≡ option_or (naming_refusal d p) (option_or (folder_refusal w.folder (folder_of p)) (package_refusal w findings d ts p)))
    × (Some (line_data w ts m.features p) ≡ index_data w text m)
of_package w findings text m p d ts document there tables = (
  ap₂ (λ d o. option_map_or (λ p. option_or (naming_refusal d p) (option_or (folder_refusal w.folder (folder_of p)) (package_refusal w findings d (dependency_tables d m) p))) o (Some (NoPackage, []))) (sym document) there
      ∙ sym (ap (λ ts. option_or (naming_refusal d p) (option_or (folder_refusal w.folder (folder_of p)) (package_refusal w findings d ts p))) tables),
  ap (λ ts. Some (line_data w ts m.features p)) tables
      ∙ sym (ap₂ (λ d o. option_map (line_data w (dependency_tables d m) m.features) o) (sym document) there),
)

-- nothing is refused of three, or the third alone is
last_of_three : (a b c whole o : Option Refusal) → whole ≡ option_or a (option_or b c) → None ≡ a → None ≡ b → o ≡ c → whole ≡ o
last_of_three a b c whole o is one two three = is ∙ ap₂ (λ a b. option_or a (option_or b c)) (sym one) (sym two) ∙ sym three

pub returns-clause-taken : goal.returns-clause-taken
returns-clause-taken g c =
    let said = of_package (wanted_of c.args.options) c.args.findings.now c.args.text.now (manifest_meaning (λ m. m) c.args.manifest.now) (package_meaning (λ m. m) c.in-Some.package) _ _
    c.in_ok-document.ensures (ap (option_map (package_meaning (λ m. m))) c.in-Some.is) (ap (map table_of) c.as_slice-sections.ensures.value ∙ c.in_ok-sections.ensures) in
    last_of_three _ _ _ _ None said.0 c.in_default-naming_refusal.ensures (rw c.in_default-2.is at c.in_ok-names.ensures) c.in_default-package_refusal.ensures

pub returns-clause-entry : goal.returns-clause-entry
returns-clause-entry g c =
    let said = of_package (wanted_of c.args.options) c.args.findings.now c.args.text.now (manifest_meaning (λ m. m) c.args.manifest.now) (package_meaning (λ m. m) c.in-Some.package) _ _
    c.in_ok-document.ensures (ap (option_map (package_meaning (λ m. m))) c.in-Some.is) (ap (map table_of) c.as_slice-sections.ensures.value ∙ c.in_ok-sections.ensures) in
    ap Some c.in_ok-line_of.ensures ∙ said.1
