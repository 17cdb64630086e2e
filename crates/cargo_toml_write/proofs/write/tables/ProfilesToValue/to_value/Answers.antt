use Rattle.cargo_toml_write.proofs.Writers.{alone, chain, ends_over, known_profiles, profile_way, profiles_again, profiles_meaning, profiles_way, reads_again}
use Rattle.cargo_toml_write.proofs.write.tables.ProfilesToValue.to_value.Goals as goal

pub returns : goal.returns
returns c =
    let written = ends_over profile_way (λ p. p.custom) known_profiles (profiles_meaning c.args.self.now) c.finish.result c.over-writing.ensures c.finish.ensures (search chain depth 40 fits 4000) in
    record { written = written; read_again = reads_again profiles_again _ _ written; memory = alone profiles_way _ _ written }
