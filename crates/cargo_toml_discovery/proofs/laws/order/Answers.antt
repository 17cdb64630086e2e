use Rattle.cargo_toml_discovery.proofs.Stable.{products_rank, filter-sorted_by, sorted-in_std, sorted-sorted_by}
use Rattle.cargo_toml_discovery.specs.Sorting.{in_order, product_lt}
use Rattle.cargo_toml_discovery.proofs.laws.order.Goals as goal

pub returns-clause-sorted : goal.returns-clause-sorted
returns-clause-sorted c = λ ps.
    let rank = products_rank (λ p. p) in
    sorted-in_std product_lt rank (in_order ps) (sorted-sorted_by product_lt rank ps)

pub returns-clause-stable : goal.returns-clause-stable
returns-clause-stable c = λ ps x. filter-sorted_by product_lt (products_rank (λ p. p)) x ps
