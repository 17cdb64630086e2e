use Rattle.cargo_toml_manifest.proofs.Cited.{Some, held, manifest_of, no_members, rules, subst, sym, ◌≡◌}
use Rattle.cargo_toml_manifest.proofs.manifest.read_table.Goals as goal

pub fill-fault-requires : goal.fill-fault-requires
fill-fault-requires g c =
    let is : c.in-Ok.whole ≡ c.default.result = search rules in
    λ reads. subst (λ m. manifest_of reads no_members ≡ Some (held m)) (sym is) (c.default.ensures reads)
