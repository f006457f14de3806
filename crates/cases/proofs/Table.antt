-- The table of ten cases. Each was computed where its definitions are.
use Rattle.cases.specs.Table.{Table}
use Rattle.duration.specs.Cases as fits
use Rattle.mlpg_adjust.specs.Cases as rows

pub table : Table
table =
    record {
      case_1_start = fits.case_1_start;
      case_1 = fits.case_1;
      case_2 = fits.case_2;
      case_3 = fits.case_3;
      case_4 = fits.case_4;
      case_5 = fits.case_5;
      case_6_target = fits.case_6_target;
      case_6_start = fits.case_6_start;
      case_6_total = fits.case_6_start_over;
      case_7_one = fits.case_7_one;
      case_7_two = fits.case_7_two;
      case_8 = fits.case_8;
      case_9_open = fits.case_9_open;
      case_9_given = fits.case_9_close;
      case_10_rows = rows.case_10_rows;
      case_10_right = rows.case_10_right;
    }
