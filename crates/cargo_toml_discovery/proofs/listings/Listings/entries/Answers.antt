use Rattle.cargo_toml_discovery.proofs.Cited.{Entry, Global, List, Name, Named, NamesAscend, Option, String, [], all_named, answers_of, ap, append-nil, deref, map, named_in, named_of, names_in, rest_all, string_bytes, subst, sym, unwrap_or, ◌++◌, ◌∙◌, ◌≡◌}
use Rattle.cargo_toml_discovery.proofs.{Unique.Sorted, Unique.ascend-set, Ascend.ascend-named, Ascend.none-ascend}
use Rattle.cargo_toml_discovery.proofs.listings.Listings.entries.Goals as goal

pub returns-clause-ascend : goal.returns-clause-ascend
returns-clause-ascend c =
    let a = answers_of c.args.self.now in
    let folder = c.args.folder.now in
    let texts = ap (λ (r : Option (List Name)). unwrap_or r []) c.in-Some.ensures in
    let up : Sorted (names_in a folder) = subst (λ (ts : List Name). Sorted ts) texts (ascend-set c.in-Some.names.now c.len-count.ensures.ordered) in
    let done = rest_all deref c.loop-name.name-iterator c.next.new.self c.next.result c.in-None.is c.next.ensures.steps in
    let all : map named_of c.loop-name.entries.items ≡ map (named_in a folder) (names_in a folder) =
    sym (append-nil (map named_of c.loop-name.entries.items))
    ∙ ap (λ (ks : List (String Global)). map named_of c.loop-name.entries.items ++ map (named_in a folder) (map (λ k. string_bytes k) ks)) (sym done) ∙ c.loop-name.invariant in
    subst (λ (es : List Named). NamesAscend es) (sym all) (ascend-named a folder (names_in a folder) up)

pub returns-in_default-clause-ascend : goal.returns-in_default-clause-ascend
returns-in_default-clause-ascend c = subst (λ (es : List Entry). NamesAscend (all_named es)) (sym c.new.ensures.items) none-ascend
