use Rattle.cargo_toml_write.proofs.Cited.{Some, array, no_items, no_members, product_rows, refl, untested_binary}
use Rattle.cargo_toml_write.proofs.Rows.{all_written}
use Rattle.cargo_toml_write.proofs.examples.a_product_is_written.Goals as goal

pub returns : goal.returns
returns c = (_, refl, all_written (product_rows untested_binary) no_members _ (Some _, refl, (Some _, refl, (Some _, refl, (Some (array no_items), (no_items, refl, tt), refl)))))
