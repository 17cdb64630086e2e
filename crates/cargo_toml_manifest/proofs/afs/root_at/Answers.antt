use Rattle.std.proofs.Common.{rules, string_bytes}
use Rattle.cargo_toml_manifest.proofs.Rooted.{faulty_bytes, no_workspace_table}
use Rattle.cargo_toml_manifest.proofs.afs.root_at.Goals as goal

pub returns-in-Err : goal.returns-in-Err
returns-in-Err c =
    let h = rw c.as_slice.ensures.value at c.in-Err.ensures.refused in
    let w = rw c.as_str.ensures.value at c.wrapped.ensures in
    faulty_bytes c.args.bytes.items (string_bytes c.args.path) c.in-Err.fault c.wrapped.result h w

pub returns-then-is_none : goal.returns-then-is_none
returns-then-is_none c =
    let h = rw c.as_slice.ensures.value at c.in-Ok.ensures.read in
    let w = rw c.as_str-then-is_none.ensures.value at c.wrapped-then-is_none.ensures in
    no_workspace_table c.args.bytes.items (string_bytes c.args.path) c.in-Ok.manifest.value c.in_ok-fault.fault c.wrapped-then-is_none.result h (search rules) (search rules) w
