use Rattle.cargo_toml_manifest.proofs.Cited.{Stated, StatedMeaning, answers_of, ap, around_in, discovered, discovered_meaning, file_meaning, held, option_copied, option_map, package_meaning, product_meaning, refl, stated_meaning, subst, ◌≡◌}
use Rattle.cargo_toml_manifest.proofs.FoundAround.{stated_so}
use Rattle.std.specs.Prelude.{IfOk}
use Rattle.std.specs.Prelude.{map}
use Rattle.cargo_toml_manifest.proofs.finding.found_in.Goals as goal

pub returns : goal.returns
returns g c =
    let m = held c.args.manifest.now in
    let p = package_meaning (λ m. m) c.args.package.now in
    let s : Stated = record {
      name = c.as_str.result;
      edition = c.edition.result;
      autolib = p.autolib;
      wanted = c.wanted.result;
      lib = c.as_ref.result;
      bin = c.as_slice.result;
      example = c.as_slice-2.result;
      test = c.as_slice-3.result;
      bench = c.as_slice-4.result;
      build = c.as_ref-2.result;
      readme = c.readme.result;
    } in
    let same = stated_so m p (option_copied c.args.new) (stated_meaning s)
    c.as_str.ensures.value c.edition.ensures refl c.wanted.ensures
    (ap (option_map product_meaning) c.as_ref.ensures.value)
    (ap (map product_meaning) c.as_slice.ensures.value)
    (ap (map product_meaning) c.as_slice-2.ensures.value)
    (ap (map product_meaning) c.as_slice-3.ensures.value)
    (ap (map product_meaning) c.as_slice-4.ensures.value)
    (ap (option_map file_meaning) c.as_ref-2.ensures.value)
    c.readme.ensures in
    subst
    (λ (t : StatedMeaning). IfOk c.discover.result (λ d. discovered_meaning d ≡ discovered t (around_in (answers_of c.args.listings.now) t.wanted)))
    same c.discover.ensures
