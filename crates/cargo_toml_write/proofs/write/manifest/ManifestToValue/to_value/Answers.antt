use Rattle.cargo_toml_write.proofs.Cited.{all_features, manifest_meaning, manifest_reads, manifest_rows, manifest_way}
use Rattle.cargo_toml_write.proofs.Writers.{◌then◌, alone, done, ends, features_in, manifest_again, manifest_features, reread, tree_again}
use Rattle.cargo_toml_write.proofs.write.manifest.ManifestToValue.to_value.Goals as goal

pub returns : goal.returns
returns g c =
    let way = g.Metadata.ToValue.way in
    let manifest = manifest_meaning g.Metadata.ToValue.meaning c.args.self.now in
    let written = ends (manifest_rows way) manifest c.finish.result c.new-writing.ensures.no_fault c.new-writing.ensures.no_key c.finish.ensures
    (c.optional.ensures then c.optional-2.ensures then c.given.ensures then c.given-2.ensures then c.given-3.ensures then
    c.given-4.ensures then c.given-5.ensures then
    c.given-6.ensures then c.given-7.ensures then c.optional-3.ensures then c.given-8.ensures then c.given-9.ensures then
    c.given-10.ensures then c.given-11.ensures then c.given-12.ensures then c.given-13.ensures then c.given-14.ensures then done) in
    record {
      written = written;
      read_again = λ told law.
          tree_again (manifest_way way) manifest (manifest_reads g.Metadata.FromValue.from_tree) (reread (manifest_meaning g.Metadata.FromValue.meaning c.args.self.now)) c.finish.result written
          (manifest_again way g.Metadata.ToValue.meaning g.Metadata.FromValue.meaning g.Metadata.FromValue.from_tree law c.args.self.now told);
      features_again = λ told. tree_again (manifest_way way) manifest features_in (all_features manifest) c.finish.result written (manifest_features way manifest told);
      memory = alone (manifest_way way) manifest _ written;
    }
