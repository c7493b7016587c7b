-- The groups of a window and their words are those of `group_words`, passed on to whoever reads the summary.
pub use Rattle.group_words.specs.Groups.{groups_on, group_count, group_index, group_at, group_of, cut, cell_at, is_empty, group_word}
unfoldable pub use Rattle.group_words.specs.Groups.{is_empty_state, is_empty_line, is_empty_layer, is_empty_group}
