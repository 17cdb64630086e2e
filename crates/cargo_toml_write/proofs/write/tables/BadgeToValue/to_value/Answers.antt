use Rattle.cargo_toml_write.proofs.Writers.{alone, badge_again, badge_meaning, badge_rows, badge_way, chain, ends, reads_again}
use Rattle.cargo_toml_write.proofs.write.tables.BadgeToValue.to_value.Goals as goal

pub returns : goal.returns
returns c =
    let written = ends badge_rows (badge_meaning c.args.self.now) c.finish.result c.new-writing.ensures.no_fault c.new-writing.ensures.no_key c.finish.ensures (search chain depth 80 fits 4000) in
    record { written = written; read_again = reads_again badge_again _ _ written tt; memory = alone badge_way _ _ written tt }
