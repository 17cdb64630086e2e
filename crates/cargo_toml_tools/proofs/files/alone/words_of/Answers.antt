use Rattle.cargo_toml_tools.proofs.Cited.{IfOk, codes, string_bytes, subst, ◌++◌, ◌≡◌}
use Rattle.cargo_toml_tools.proofs.files.alone.words_of.Goals as goal

pub returns : goal.returns
returns c =
    subst (λ n. IfOk c.format.result (λ words. string_bytes words ≡ n ++ codes " is left to a workspace, and none is looked for"))
    c.in_ok-name.ensures c.format.ensures.ok
