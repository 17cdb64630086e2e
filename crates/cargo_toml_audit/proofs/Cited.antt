-- The names that proofs of this crate cite of definitions and of other libraries. Declares nothing.
pub use Rattle.cargo_toml.specs.RealFiles.{any_root, real_folders, real_roots}
pub use Rattle.cargo_toml_audit.specs.AuditedFiles.{AreRead, Base, HasErrors, IsCompletedThere, IsReport, Reading, Reads, Takes, astray, base_of, belongs, ended, entered_places, foreign, found_beside, found_in_lists, gain_of, gain_of_all, held_in, incomplete, is_astray, is_excluded, is_member, is_rootless, listed_places, looked, member_places, need_by, none_found, passed, places_read, refusal, refusals_at, rootless, targets_found, told, unread, untold}
pub use Rattle.cargo_toml_audit.specs.Entries.{asked_in, asking_of, entries_of, in_target, inherited_in, left_dependency, left_keys, listed_of, named_if, with_kind}
pub use Rattle.cargo_toml_audit.specs.MemberFolders.{Agrees, Disk, OnDisks, Tells, below, disk_of, further, further_in, has_wrong_name, is_folder, is_wrong, is_wrong_name, led, named_so, picked, place_if, places_if_right, places_once, subfolders, unread_in, unseen, unseen_in, with_itself}
pub use Rattle.cargo_toml_audit.specs.Oddities.{Gain, Oddity, both, found_each, found_if, found_in, further_from, further_of, is_bare, is_not_inherited, leads_elsewhere, named_by, oddities_of, oddity_of, only_found, overall_oddities, shared_oddities}
pub use Rattle.cargo_toml_audit.specs.Patterns.{Part, accepts, after_any, after_one, begins, is_among, is_empty, is_many, matches, next, part_of, read_all, read_more, read_of}
pub use Rattle.cargo_toml_audit.specs.Places.{excluded_by, included, is_in, lies_in_some, one_further, outer_paths, pieces}
pub use Rattle.cargo_toml_audit.specs.Steps.{AreListed, Visits, Walks, known_of}
pub use Rattle.cargo_toml_audit.specs.declared.audit.Code.TheVariants.{Features, Incomplete, NoLints, NotInherited, OtherWorkspace, Outside, TwoWorkspaces, Virtual, WorkspaceWithin}
pub use Rattle.std.proofs.Common.{Bool, Bor, Global, List, MatchOption, None, Option, Some, String, Vec, [], ap, append-nil, append_assoc, ap₂, arith, bytes_eq, cond, drop, false, filter, fold, get_or, if◌then◌else◌, inl, inr, is_some, length, lit<, map, nat_le, ne_eqb, not, option_map, option_to_list, refl, replicate, reverse, rules, string_bytes, subst, suc, sym, take, tests, true, unwrap_or, zero, ℕ, ◌&&◌, ◌++◌, ◌+◌, ◌-◌, ◌<◌, ◌||◌, ◌∙◌, ◌∷◌, ◌≡◌, ◌≢◌}
pub use Rattle.std.proofs.Math.Bool.{and_comm, or-false, or_comm}
pub use Rattle.std.proofs.lemmas.Bool.Decides.{Decides-eqb, nat_tests, same_from_decides}
pub use Rattle.std.proofs.lemmas.Iterator.{YieldsList-from_map, YieldsList-from_slice, YieldsList-from_zip, items_from_collect}
pub use Rattle.std.proofs.lemmas.Iterator.Consumers.{YieldsList-at, YieldsList-from_scan, map_from_collect}
pub use Rattle.std.proofs.lemmas.List.{drop_all, map-append, reverse-reverse, take_more, take_rest}
pub use Rattle.std.proofs.lemmas.Result.{MatchResult-weaker, err_from_is_err_and, on_ok_weaker}
pub use Rattle.std.specs.BTreeMap.{BTreeMap, UpdatesBy, btree_map_len, get_by_text, is_at}
pub use Rattle.std.specs.List.{flat_map, join_by, list_any, scan, zip}
pub use Rattle.cargo_toml.{specs.Action.Text, specs.Completed.IsCompleted, specs.Dependencies.dependency_meaning, specs.InheritedPackages.field_is_left, specs.Manifest.Manifest, specs.Manifests.held, specs.Reads.map_meaning, specs.Sharing.shared_of, specs.Targets.TargetMeaning, specs.Targets.target_meaning}
pub use Rattle.cargo_toml_audit.{specs.declared.audit.Audit.Audit, specs.declared.audit.Finding.Finding, specs.declared.auditing.Known.Known, specs.declared.auditing.walk.Walk.Walk, specs.declared.members.patterns.Token.Token, specs.declared.members.walk.Listing.Listing, specs.declared.members.walk.Looks.Looks}
pub use Rattle.cargo_toml_audit.{specs.declared.members.walk.There.TheVariants.Nothing, specs.declared.members.walk.There.There}
pub use Rattle.cargo_toml_discovery.{proofs.Faults.from_input}
pub use Rattle.cargo_toml_graph.{proofs.Texts.bytes_eq_sym}
pub use Rattle.cargo_toml_lint.{proofs.Adding.entry_of, proofs.Adding.target_of}
pub use Rattle.cargo_toml_manifest.{proofs.Meeting.completed_handed}
pub use Rattle.cargo_toml_package.{specs.Replacing.entries_meaning}
pub use Rattle.cargo_toml_parts.{proofs.SameCopies.zip_same}
pub use Rattle.cargo_toml_tools.{proofs.Grown.flat_flat, proofs.Grown.left_next, specs.FromFiles.IsManifestIn, specs.Indexed.target_by_kind}
pub use Rattle.std.{proofs.lemmas.Bool.or_left, proofs.lemmas.Bool.or_right, proofs.lemmas.Grind.common_steps, proofs.lemmas.Iterator.Splits.YieldsList-from_str_split, proofs.lemmas.List.Elements.filter-append, proofs.lemmas.List.Folds.flat_map-map, proofs.lemmas.List.Folds.list_any-append}
pub use Rattle.std.{proofs.lemmas.Map.Text.btree_map_updates_text, proofs.lemmas.Map.Text.btree_set_updates_text, proofs.lemmas.Option.MatchOption-at_some, proofs.lemmas.Slice.Eq.bytes_eq-Decides, specs.BTreeSet.contains_text, specs.Bool.beq, specs.Cmp.Lexicographic.slice_cmp, specs.Option.option_map_or}
pub use Rattle.std.{specs.Ordering.nat_cmp, specs.Path.path_join, specs.Str.chars, specs.String.string_cmp}
pub use Rattle.toml.{specs.declared.value.Value.Value}
pub use mathlib.Core.List.{reverse_aux}
