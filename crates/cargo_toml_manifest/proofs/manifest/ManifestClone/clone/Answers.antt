use Rattle.cargo_toml_manifest.proofs.Cited.{arith, copied, ends, steady, surely}
use Rattle.cargo_toml_manifest.proofs.manifest.ManifestClone.clone.Goals as goal

pub returns : goal.returns
returns g c = record {
  cases = ends _ _ _ _ _ _ c.new-copying.ensures c.finish.ensures (λ after. grind (arith, steady, copied)) (λ sure. grind (arith, surely));
}
