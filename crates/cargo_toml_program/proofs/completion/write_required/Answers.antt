use Rattle.cargo_toml_program.proofs.Cited.{Global, List, OnOk, String, Text, between_commas, codes, map, string_bytes, subst, ◌++◌, ◌≡◌}
use Rattle.cargo_toml_program.proofs.completion.write_required.Goals as goal

pub returns : goal.returns
returns c =
    subst (λ (xs : List (String Global)). OnOk c.write_texts.result (string_bytes c.write_texts.new.text
    ≡ string_bytes c.args.text.now ++ (codes " | required: " ++ between_commas (λ (t : Text). t) (map string_bytes xs))))
    c.as_slice.ensures.value c.write_texts.ensures
