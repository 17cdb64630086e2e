use Rattle.std.proofs.Common.{Bor, refl}
use Rattle.std.proofs.lemmas.Result.{on_ok_weaker}
use Rattle.std.specs.List.{flat_map}
use Rattle.serde_json.specs.Data.{no_members, object}
use Rattle.cargo_toml.specs.Action.{Text}
use Rattle.cargo_toml_check.specs.Listed.{row_at}
use Rattle.cargo_toml_tools.specs.IndexEntries.{with_rows}
use Rattle.cargo_toml_answers.proofs.listing.put_found.Goals as goal

pub returns : goal.returns
returns g c =
    let row = λ (k : Bor Text). row_at g.X.Put.json c.args.found.now k.now in
    on_ok_weaker c.put_named.result (λ adds. (
      object (with_rows (flat_map row c.in_ok-names.names.keys) no_members),
      (record { names = c.in_ok-names.names; exact = c.in_ok-names.ensures; members = refl }, adds),
    )) c.put_named.ensures
