use Rattle.cargo_toml_features.proofs.recursive.make_room.Goals as goal

pub returns-in_ok-reserve : goal.returns-in_ok-reserve
returns-in_ok-reserve g c = λ x. c.in_ok-reserve.ensures.entries.2 (record { ref_ptr = (0, 0); now = x })
