use Rattle.cargo_toml_bench.proofs.Cited.{Data, IfOk-weaker, IfSome, IsPrinted, IsTold, IsVersionAgain, IsVersioned, Manifest, ManifestMeaning, Option, Package, PackageMeaning, Parts, Set, Spells, Value, Version, VersionAgain, ap, arith, by_zero_rule, false, is_zero, manifest_meaning, option_map, package_meaning, parse_document, parts_of, reread, string_bytes, subst, sym, view, with_version, ◌∙◌, ◌≡◌}
use Rattle.cargo_toml_bench.proofs.versioned.with_version.Goals as goal

-- A manifest with another version of its package: it is still told, and read again as it is.
package_told : (v : Parts) (x : Option (PackageMeaning Data)) → IsVersionAgain v → IfSome (option_map (λ (p : PackageMeaning Data). record p { version = Set v }) x) (λ p. VersionAgain p.version)
package_told v x again = grind arith

told_with : (v : Parts) (m : ManifestMeaning Data) → IsTold m → IsVersionAgain v → IsTold (with_version v m)
told_with v m h again = grind (arith, package_told)

-- the rule of version 0.0.0 has nothing to do
unruled : (v : Parts) (x : Option (PackageMeaning Data)) → is_zero (Set v) ≡ false
    → option_map by_zero_rule (option_map (λ (p : PackageMeaning Data). record p { version = Set v }) x) ≡ option_map (λ (p : PackageMeaning Data). record p { version = Set v }) x
unruled v x p = grind arith

same_with : (v : Parts) (m : ManifestMeaning Data) → reread m ≡ m → is_zero (Set v) ≡ false → reread (with_version v m) ≡ with_version v m
same_with v m stays zero = grind (arith, unruled)

-- what the code puts in is what is meant
package_meant : (v : Version) (x : Option (Package Value)) → option_map (package_meaning view) (option_map (λ (p : Package Value). record p { version = Set v }) x)
    ≡ option_map (λ (p : PackageMeaning Data). record p { version = Set (parts_of v) }) (option_map (package_meaning view) x)
package_meant v x = grind arith

meant_with : (v : Version) (m : Manifest Value) → manifest_meaning view (record m { «package» = option_map (λ (p : Package Value). record p { version = Set v }) m.«package» })
    ≡ with_version (parts_of v) (manifest_meaning view m)
meant_with v m = ap (λ (q : Option (PackageMeaning Data)). record (manifest_meaning view m) { «package» = q }) (package_meant v m.«package»)

pub returns : goal.returns
returns c =
    let m : ManifestMeaning Data = manifest_meaning view c.deref_mut.result.now in
    let v = parts_of c.in_ok-version.version in
    let meant : manifest_meaning view c.deref.result.now ≡ with_version v m =
    ap (manifest_meaning view) (c.deref.ensures ∙ c.set_version.ensures) ∙ meant_with c.in_ok-version.version c.deref_mut.result.now in
    let spelled : Spells c.args.bytes.now m =
    subst (λ (x : Manifest Value). Spells c.args.bytes.now (manifest_meaning view x)) (sym c.deref_mut.ensures.value) c.in_ok-held.ensures.manifest in
    let is_told : IsTold (manifest_meaning view c.deref.result.now) =
    subst (λ (x : ManifestMeaning Data). IsTold x) (sym meant)
    (told_with v m (c.read_manifests_are_told.ensures.of_document (parse_document c.args.bytes.now) m spelled.reads)
    (c.read_dependencies_are_told.ensures.versions c.args.version.now v c.in_ok-version.ensures)) in
    IfOk-weaker c.manifest_text.result
    (λ text. IsTold (manifest_meaning view c.deref.result.now) → IsPrinted (manifest_meaning view c.deref.result.now) (string_bytes text))
    (λ text. IsVersioned c.args.bytes.now c.args.version.now (string_bytes text))
    (λ text printed. record {
      manifest = m;
      spelled = spelled;
      parts = v;
      version = c.in_ok-version.ensures;
      printed = subst (λ (x : ManifestMeaning Data). IsPrinted x (string_bytes text)) meant (printed is_told);
      same = λ says zero. same_with v m (c.read_manifests_are_told.ensures.stays (parse_document c.args.bytes.now) m spelled.reads says) zero;
    })
    c.manifest_text.ensures
