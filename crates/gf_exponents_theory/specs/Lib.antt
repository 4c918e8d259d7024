pub mod Exponents  -- monomials, products, divisibility
pub mod Orders  -- what an order is, the orders one by one
pub mod SixOrders  -- the six as one type
pub mod Laws  -- what the functions of this crate name
