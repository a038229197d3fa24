use Rattle.element.proofs.Elements.{integer_product_one, integer_product_x, integer_product_add_left, integer_product_scaled_left, integer_product_add_right, integer_product_scaled_right, integer_product_comm, integer_product_exchange, product_comm, product_exchange, product_residues, product_add_left, product_add_right}
use Rattle.element.proofs.Shapes.{length_product, product_is_element}
use Rattle.element.proofs.Sizes.{size_of_coefficient}
use Rattle.element.proofs.product_laws.Goals as goal

pub returns : goal.returns
returns c = record {
  one_times = integer_product_one;
  x_times = integer_product_x;
  sum_on_the_left = integer_product_add_left;
  multiple_on_the_left = integer_product_scaled_left;
  sum_on_the_right = integer_product_add_right;
  multiple_on_the_right = integer_product_scaled_right;
  commutative = integer_product_comm;
  commutative_of_elements = product_comm;
  either_order = integer_product_exchange;
  either_order_of_elements = product_exchange;
  size = size_of_coefficient;
  residues_of_product = product_residues;
  element_sum_on_the_left = product_add_left;
  element_sum_on_the_right = product_add_right;
  length_of_product = length_product;
  is_element = product_is_element;
}
