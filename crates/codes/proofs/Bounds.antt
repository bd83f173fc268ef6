-- What bounds a code's numbers: the check has these at hand in the file of the code, so that no sum, product or turn needs an answer of its own.
use Rattle.codes.proofs.Shapes.{low, high, rows_low, rows_high, columns_high, small_equations}
use Rattle.codes.proofs.Lines.{rdp_n, rdp_rows, rdp_columns, hcode_n, hcode_rows, hcode_columns, xcode_n, xcode_rows, xcode_columns, evenodd_n, evenodd_rows, evenodd_columns}
use Rattle.codes.proofs.Geometry.{disk_seen, cell_of_is, row_seen, column_seen, there_seen}
use Rattle.codes.proofs.Short.{m_is, small_cells}
use Rattle.codes.proofs.Whole.{small_columns, evenodd_second_small}
use Rattle.codes.proofs.Depends.{turn_below, small_turn}

pub ruleset bounds = (low, high)

pub ruleset rdp_bounds = (low, high, rows_high, columns_high, small_equations, rdp_n, rdp_rows, rdp_columns, m_is, small_cells, small_turn)

pub ruleset hcode_bounds = (low, high, rows_high, columns_high, hcode_n, hcode_rows, hcode_columns, small_columns, small_turn)

pub ruleset xcode_bounds = (low, high, xcode_n, xcode_rows, xcode_columns, small_columns, turn_below, small_turn)

pub ruleset evenodd_bounds = (low, high, rows_high, columns_high, small_equations, evenodd_n, evenodd_rows, evenodd_columns, small_columns, evenodd_second_small, small_turn)

-- the row and the column of a cell, as the code works them out
pub ruleset seen = (rows_low, disk_seen, cell_of_is, row_seen, column_seen, there_seen)
