use Rattle.cargo_toml_package.proofs.Cited.{PackageFaults, ap, begins, codes, means_none, package_of_table, refl, table_view, takes, takes_last_optional, takes_optional, takes_required}
use Rattle.cargo_toml_package.proofs.package.fill.Goals as goal

-- each key in turn: what is left of the table, and what was read
pub returns : goal.returns
returns g c =
    let held = c.requires in
    let ms = table_view c.args.table in
    let meta = g.Metadata.FromValue.from_tree in
    let all = begins ms _ (package_of_table meta ms) (PackageFaults meta g.Metadata.FromValue.from_refuses ms) c.new-reading.ensures in
    let name = takes_required (codes "name") _ _ _ _ _ _ _ all refl c.take_required.ensures.value c.take_required.ensures.left in
    let version = takes (codes "version") _ _ _ _ _ _ _ _ _ name refl (ap (λ p. p.version) held) c.take.ensures.value c.take.ensures.left in
    let edition = takes (codes "edition") _ _ _ _ _ _ _ _ _ version refl refl c.take-2.ensures.value c.take-2.ensures.left in
    let rust_version = takes_optional (codes "rust-version") _ _ _ _ _ _ _ _ edition refl (ap (λ p. p.rust_version) held) c.take_optional.ensures.value c.take_optional.ensures.left in
    let build = takes_optional (codes "build") _ _ _ _ _ _ _ _ rust_version refl (ap (λ p. p.build) held) c.take_optional-2.ensures.value c.take_optional-2.ensures.left in
    let workspace = takes_optional (codes "workspace") _ _ _ _ _ _ _ _ build refl (ap (λ p. p.workspace) held) c.take_optional-3.ensures.value c.take_optional-3.ensures.left in
    let authors = takes (codes "authors") _ _ _ _ _ _ _ _ _ workspace refl (ap (λ p. p.authors) held) c.take-3.ensures.value c.take-3.ensures.left in
    let links = takes_optional (codes "links") _ _ _ _ _ _ _ _ authors refl (ap (λ p. p.links) held) c.take_optional-4.ensures.value c.take_optional-4.ensures.left in
    let description = takes_optional (codes "description") _ _ _ _ _ _ _ _ links refl (ap (λ p. p.description) held) c.take_optional-5.ensures.value c.take_optional-5.ensures.left in
    let homepage = takes_optional (codes "homepage") _ _ _ _ _ _ _ _ description refl (ap (λ p. p.homepage) held) c.take_optional-6.ensures.value c.take_optional-6.ensures.left in
    let documentation = takes_optional (codes "documentation") _ _ _ _ _ _ _ _ homepage refl (ap (λ p. p.documentation) held) c.take_optional-7.ensures.value c.take_optional-7.ensures.left in
    let readme = takes (codes "readme") _ _ _ _ _ _ _ _ _ documentation refl (ap (λ p. p.readme) held) c.take-4.ensures.value c.take-4.ensures.left in
    let keywords = takes (codes "keywords") _ _ _ _ _ _ _ _ _ readme refl (ap (λ p. p.keywords) held) c.take-5.ensures.value c.take-5.ensures.left in
    let categories = takes (codes "categories") _ _ _ _ _ _ _ _ _ keywords refl (ap (λ p. p.categories) held) c.take-6.ensures.value c.take-6.ensures.left in
    let exclude = takes (codes "exclude") _ _ _ _ _ _ _ _ _ categories refl (ap (λ p. p.exclude) held) c.take-7.ensures.value c.take-7.ensures.left in
    let include = takes (codes "include") _ _ _ _ _ _ _ _ _ exclude refl (ap (λ p. p.include) held) c.take-8.ensures.value c.take-8.ensures.left in
    let license = takes_optional (codes "license") _ _ _ _ _ _ _ _ include refl (ap (λ p. p.license) held) c.take_optional-8.ensures.value c.take_optional-8.ensures.left in
    let license_file = takes_optional (codes "license-file") _ _ _ _ _ _ _ _ license refl (ap (λ p. p.license_file) held) c.take_optional-9.ensures.value c.take_optional-9.ensures.left in
    let repository = takes_optional (codes "repository") _ _ _ _ _ _ _ _ license_file refl (ap (λ p. p.repository) held) c.take_optional-10.ensures.value c.take_optional-10.ensures.left in
    let default_run = takes_optional (codes "default-run") _ _ _ _ _ _ _ _ repository refl (ap (λ p. p.default_run) held) c.take_optional-11.ensures.value c.take_optional-11.ensures.left in
    let autobins = takes (codes "autobins") _ _ _ _ _ _ _ _ _ default_run refl (ap (λ p. p.autobins) held) c.take-9.ensures.value c.take-9.ensures.left in
    let autolib = takes (codes "autolib") _ _ _ _ _ _ _ _ _ autobins refl (ap (λ p. p.autolib) held) c.take-10.ensures.value c.take-10.ensures.left in
    let autoexamples = takes (codes "autoexamples") _ _ _ _ _ _ _ _ _ autolib refl (ap (λ p. p.autoexamples) held) c.take-11.ensures.value c.take-11.ensures.left in
    let autotests = takes (codes "autotests") _ _ _ _ _ _ _ _ _ autoexamples refl (ap (λ p. p.autotests) held) c.take-12.ensures.value c.take-12.ensures.left in
    let autobenches = takes (codes "autobenches") _ _ _ _ _ _ _ _ _ autotests refl (ap (λ p. p.autobenches) held) c.take-13.ensures.value c.take-13.ensures.left in
    let publish = takes (codes "publish") _ _ _ _ _ _ _ _ _ autobenches refl (ap (λ p. p.publish) held) c.take-14.ensures.value c.take-14.ensures.left in
    let resolver = takes_optional (codes "resolver") _ _ _ _ _ _ _ _ publish refl (ap (λ p. p.resolver) held) c.take_optional-12.ensures.value c.take_optional-12.ensures.left in
    takes_last_optional (codes "metadata") _ _ _ _ _ _ _ resolver refl (means_none _ _ _ (ap (λ p. p.metadata) held)) c.take_metadata.ensures.value refl
